-- Two texts, one after another.
use Rattle.std.proofs.Common.{ℕ, codes, subst, OnOk}
use Rattle.std.specs.Io.KnownBytes.{Appends}
use Rattle.std.proofs.KnownBytes.{Appends-trans}
use Rattle.std.proofs.lemmas.Result.{on_ok_weaker}
use Rattle.apf_cluster_picture.specs.Facts.{waiting_words}
use Rattle.apf_cluster_picture.specs.Means.{mean_text, peak_of}
use Rattle.apf_cluster_picture.proofs.facts.write_waiting.Goals as goal

pub returns : goal.returns
unfolding waiting_words
returns g c =
    let told = g.W.Write.contents in
    on_ok_weaker c.write_mean.result (λ last. Appends-trans (told c.args.out.now) (told c.write_all.new.self) (told c.write_mean.new.out) (codes ", waiting at most ") (mean_text (peak_of c.args.waiting.now)) c.in_ok-write_all.ensures.bytes last) (subst (λ (m : ℕ). OnOk c.write_mean.result (Appends (told c.write_all.new.self) (told c.write_mean.new.out) (mean_text m))) c.peak.ensures c.write_mean.ensures)
