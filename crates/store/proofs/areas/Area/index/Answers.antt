use Rattle.std.proofs.Common.{cond, eqb, get_or, Some, None, refl, sym, ap, ◌∙◌, arith}
use Rattle.std.proofs.lemmas.List.{get_or-replicate}
use Rattle.store.specs.Log.{last_place, item_of}
use Rattle.store.proofs.Chunks.{place_at}
use Rattle.store.proofs.Lasts.{last_place_more, noted}
use Rattle.store.proofs.RecordLaws.{item_below}
use Rattle.store.proofs.areas.Area.index.Goals as goal

pub loop-place-init : goal.loop-place-init
loop-place-init c = (refl, λ item below. get_or-replicate 256 item None None below)

pub note-requires-clause-there : goal.note-requires-clause-there
note-requires-clause-there c =
    let b = c.args.self.now.bytes.now in
    let at = place_at b c.places.result.now c.args.used c.loop-place.place c.places.ensures.places c.requires.fits c.loop-place-test.true in
    omega (arith, c.item_of.ensures ∙ ap item_of at.1, item_below b 256 c.args.used c.loop-place.place c.requires.sound at.0)

pub loop-place-preserved : goal.loop-place-preserved
loop-place-preserved c =
    let b = c.args.self.now.bytes.now in
    let place = c.loop-place.place in
    let at = place_at b c.places.result.now c.args.used place c.places.ensures.places c.requires.fits c.loop-place-test.true in
    let is = c.item_of.ensures ∙ ap item_of at.1 in (
      c.note.array_long,
      λ i below.
          ap (λ l. get_or l i None) c.note.ensures
          ∙ noted c.loop-place.latest c.item_of.result place i (last_place b place i) _
          (omega (arith, is, item_below b 256 c.args.used place c.requires.sound at.0, c.loop-place.invariant.0)) (c.loop-place.invariant.1 i below)
          (last_place_more b place i ∙ ap (λ k. cond (eqb k i) (Some place) (last_place b place i)) (sym is)),
    )
