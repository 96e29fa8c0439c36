-- The characters that came are those of the name.
use Rattle.std.proofs.Common.{ℕ, List, ◌∙◌, sym, subst, map-id}
use Rattle.std.specs.List.{flat_map}
use Rattle.std.specs.Io.KnownBytes.{Appends}
use Rattle.std.proofs.lemmas.Iterator.{YieldsList-from_chars}
use Rattle.std.proofs.lemmas.Iterator.Consumers.{YieldsList-end}
use Rattle.apf_picture.specs.Names.{character_text}
use Rattle.apf_cluster_picture.proofs.facts.write_name.Goals as goal

pub returns : goal.returns
returns g c =
    let told = g.W.Write.contents in
    let end = YieldsList-end (YieldsList-from_chars c.args.name.now c.utf8.name cc) c.loop-character.yielded _ c.loop-character.yielded_by _ _ c.in-None.is c.next.ensures.steps in
    subst (λ (cs : List ℕ). Appends (told c.args.out.now) (told c.loop-character.out) (flat_map character_text cs)) (sym (map-id c.loop-character.yielded) ∙ end.0) c.loop-character.invariant
