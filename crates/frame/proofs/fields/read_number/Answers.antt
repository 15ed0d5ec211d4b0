use Rattle.std.proofs.Common.{◌≡◌, ◌∙◌, arith}
use Rattle.store.specs.Bytes.{number_in}
use Rattle.frame.proofs.Bytes.{number_bound, padded}
use Rattle.frame.proofs.fields.read_number.Goals as goal

pub returns : goal.returns
returns c =
    let bytes = c.args.bytes.now in
    let read = rw c.copy_from_slice.ensures.after at c.from_be_bytes.ensures in
    let value : c.from_be_bytes.result ≡ number_in bytes = read ∙ padded bytes c.requires in
    record {
      value = value;
      bound = rw value (number_bound bytes (λ i. omega (arith, c.type_inv.bytes i)));
    }
