-- The three parts of the line, one after another.
use Rattle.std.proofs.Common.{◌++◌, take}
use Rattle.std.specs.Prelude.{codes}
use Rattle.std.proofs.lemmas.Result.{on_ok_weaker}
use Rattle.apf_hands.specs.Alike.{others_of}
use Rattle.apf_hands.specs.Hands.{named_line, named_text}
use Rattle.apf_hands.proofs.Written.{appends_more}
use Rattle.apf_hands.proofs.brief.write_named_line.Goals as goal

pub returns : goal.returns
unfolding named_line
returns g c =
    let told = g.W.Write.contents in
    let named = named_text (take c.args.most (others_of c.args.hash c.args.hashes.now)) in
    on_ok_weaker c.write_all-2.result
    (λ end. appends_more (told c.args.out.now) (told c.write_named.new.out) (told c.write_all-2.new.self) (codes "  covered by" ++ named) (codes "\n")
    (appends_more (told c.args.out.now) (told c.write_all.new.self) (told c.write_named.new.out) (codes "  covered by") named c.in_ok-write_all.ensures.bytes c.in_ok-write_named.ensures)
    end)
    c.write_all-2.ensures.bytes
