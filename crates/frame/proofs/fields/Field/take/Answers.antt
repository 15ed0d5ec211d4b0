use Rattle.std.proofs.Common.{◌≡◌, ◌≤◌, length, sym, ap, ◌∙◌, arith}
use Rattle.std.proofs.lemmas.List.{take_rest, drop-drop, length-drop}
use Rattle.store.specs.Bytes.{number_in, part}
use Rattle.frame.specs.Fields.{width}
use Rattle.frame.proofs.Taking.{found, length_bytes}
use Rattle.frame.proofs.fields.Field.take.Goals as goal

pub returns : goal.returns
returns c =
    let frame = c.args.frame.now in
    let k = c.args.kind in
    let w = c.width-width.ensures in
    let (fits, front, back, size, _) = rw (take_rest frame 3, w, drop-drop (width k) 3 frame) at c.in-Some.ensures.cases in
    let three : 3 ≤ length frame = omega arith in
    let sized : number_in (part 1 2 frame) ≡ width k = length_bytes frame three ∙ (sym c.from_be_bytes.ensures ∙ (c.if-from_be_bytes-width.false ∙ w)) in
    let is = found k frame (omega (arith, length-drop 3 frame)) (c.if-tag.false ∙ c.tag.ensures) sized in
    record {
      kind = c.new.ensures.kind;
      content = c.new.ensures.content ∙ front;
      size = ap length c.new.ensures.content ∙ size;
      reads = cc;
    }
