-- Three texts, one after another.
use Rattle.std.proofs.Common.{codes}
use Rattle.std.proofs.lemmas.Result.{on_ok_weaker}
use Rattle.apf_cluster_picture.specs.Heads.{title_words, title_element}
use Rattle.apf_cluster_picture.proofs.Ranges.{appends_three}
use Rattle.apf_cluster_picture.proofs.head.write_title.Goals as goal

pub returns : goal.returns
unfolding title_element
returns g c =
    let told = g.W.Write.contents in
    on_ok_weaker c.write_all-2.result (λ last. appends_three (told c.args.out.now) (told c.write_all.new.self) (told c.write_title_words.new.out) (told c.write_all-2.new.self) (codes "<title id=\"title\">") (title_words c.args.shown c.args.end) (codes "</title>\n") c.in_ok-write_all.ensures.bytes c.in_ok-write_title_words.ensures last) c.write_all-2.ensures.bytes
