-- Two texts, one after another.
use Rattle.std.proofs.Common.{codes}
use Rattle.std.proofs.lemmas.Result.{on_ok_weaker}
use Rattle.apf_picture.specs.Words.{time_text, longest_text}
use Rattle.apf_picture.proofs.Ranges.{appends_more}
use Rattle.apf_picture.proofs.words.write_longest.Goals as goal

pub returns : goal.returns
unfolding longest_text
returns g c =
    let told = g.W.Write.contents in
    on_ok_weaker c.write_time.result (λ last. appends_more (told c.args.out.now) (told c.write_all.new.self) (told c.write_time.new.out) (codes ", longest wait ") (time_text c.args.longest) c.in_ok-write_all.ensures.bytes last) c.write_time.ensures
