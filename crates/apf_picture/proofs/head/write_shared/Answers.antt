-- Three texts, one after another.
use Rattle.std.proofs.Common.{codes}
use Rattle.std.proofs.lemmas.Result.{on_ok_weaker}
use Rattle.apf_picture.specs.Heads.{shared_sentence}
use Rattle.apf_picture.specs.Names.{whole_name}
use Rattle.apf_picture.proofs.Ranges.{appends_three}
use Rattle.apf_picture.proofs.head.write_shared.Goals as goal

pub returns : goal.returns
unfolding shared_sentence
returns g c =
    let told = g.W.Write.contents in
    on_ok_weaker c.write_all-2.result (λ last. appends_three (told c.args.out.now) (told c.write_all.new.self) (told c.write_whole_name.new.out) (told c.write_all-2.new.self) (codes " The schema of all flows: ") (whole_name c.args.schema.now) (codes ".") c.in_ok-write_all.ensures.bytes c.in_ok-write_whole_name.ensures last) c.write_all-2.ensures.bytes
