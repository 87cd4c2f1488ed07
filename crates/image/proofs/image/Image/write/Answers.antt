use Rattle.std.proofs.Common.{◌≡◌, Some, ap, ◌∙◌, ap₂, to_z-of_z}
use Rattle.std.proofs.lemmas.Bool.{cond-true, not_from_false}
use Rattle.store.proofs.Meanings.{after_put_lem}
use Rattle.image.specs.Layout.{actors_of, pair_at, place_of, block_in, lawful_block, written}
use Rattle.image.specs.LawfulValues.{block_parts}
use Rattle.image.proofs.Values.{framed}
use Rattle.image.proofs.Places.{value_put, lawful_after, actors_after}
use Rattle.image.proofs.image.Image.write.Goals as goal

pub invariant_of-self : goal.invariant_of-self
invariant_of-self c =
    let s = c.args.self.now in
    let room = s.block.bytes in
    let h = c.args.half in
    let a = c.args.actor in
    let v = c.args.value in
    let w = value_put room c.write_value.new.bytes h a v (c.write_value.ensures ∙ ap₂ (written room) c.place_of-at.ensures (to_z-of_z c.ranges.value)) c.requires.known in
    let long = (framed (block_in room) (block_parts (block_in room) s.lawful).0).long in
    record {
      long = c.write_value.auto.bytes ∙ s.long;
      lawful = ap lawful_block w ∙ lawful_after (block_in room) h a v c.ranges.value long c.requires.known (not_from_false _ c.requires.lawful) s.lawful;
    }

pub returns : goal.returns
returns c =
    let s = c.args.self.now in
    let room = s.block.bytes in
    let bs = block_in room in
    let h = c.args.half in
    let a = c.args.actor in
    let v = c.args.value in
    let w = value_put room c.write_value.new.bytes h a v (c.write_value.ensures ∙ ap₂ (written room) c.place_of-at.ensures (to_z-of_z c.ranges.value)) c.requires.known in
    let long = (framed bs (block_parts bs s.lawful).0).long in
    let e : actors_of bs a ≡ Some (pair_at bs a) = cond-true _ _ _ c.requires.known in
    record {
      bytes = w;
      after = ap actors_of w ∙ after_put_lem (actors_of bs) a h v (pair_at bs a) e c.requires.lawful (actors_of (written bs (place_of h a) v)) (actors_after bs h a v c.ranges.value long c.requires.known);
    }
