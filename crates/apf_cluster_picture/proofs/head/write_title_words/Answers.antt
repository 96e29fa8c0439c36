-- Three texts, one after another.
use Rattle.std.proofs.Common.{codes}
use Rattle.std.proofs.lemmas.Result.{on_ok_weaker}
use Rattle.apf_picture.specs.Words.{counted_text, time_text}
use Rattle.apf_cluster_picture.specs.Heads.{title_words}
use Rattle.apf_cluster_picture.proofs.Ranges.{appends_three}
use Rattle.apf_cluster_picture.proofs.head.write_title_words.Goals as goal

pub returns : goal.returns
unfolding title_words
returns g c =
    let told = g.W.Write.contents in
    on_ok_weaker c.write_time.result (λ last. appends_three (told c.args.out.now) (told c.write_counted.new.out) (told c.write_all.new.self) (told c.write_time.new.out) (counted_text c.args.shown (codes "priority level")) (codes " over ") (time_text c.args.end) c.in_ok-write_counted.ensures c.in_ok-write_all.ensures.bytes last) c.write_time.ensures
