-- The line in front is cut off, by what was dropped of it and by its length.
use Rattle.std.proofs.Common.{rules, ◌≡◌, ◌<◌, ℕ, List, length, subst}
use Rattle.std.specs.Prelude.{if◌then◌else◌}
use Rattle.apf_lines.specs.declared.lines.Cut.TheVariants.{Line, TooLong}
use Rattle.apf_lines.specs.Buffer.{between, IsFirstLf}
use Rattle.apf_lines.proofs.Cutting.{front, behind, cut_off}
use Rattle.apf_lines.proofs.lines.Lines.cut.Goals as goal
use Rattle.apf_lines.proofs.lines.Lines.cut.Goals.{then-is_long, else-is_long}

pub returns : goal.returns
returns c =
    let bytes : List ℕ = c.self.inside.bytes.items in
    let start : ℕ = c.self.inside.start in
    let end : ℕ = c.self.inside.end in
    let count : ℕ = c.in-Some.length in
    let is : IsFirstLf (between start end bytes) count = subst (λ (all : List ℕ). IsFirstLf (between start end all) count) c.deref.ensures.value c.in-Some.ensures in
    let within : count < length (between start end bytes) = is.inside in
    let told : c.if-is_long.result ≡ (if c.is_too_long-is_long.result then TooLong else Line) = elim c.if-is_long.branch [
      | then-is_long w ↦ search (w.if-is_long, w.result-is, rules)
      | else-is_long w ↦ search (w.if-is_long, w.result-is, rules)
    ] in
    rw (← c.self.view_is, front start end count bytes within, behind start end count bytes within)
    (cut_off c.self.inside.longest count (between c.self.inside.from c.self.inside.to bytes) (between start end bytes) c.self.inside.is_skipped c.is_too_long-is_long.result c.if-is_long.result is c.is_too_long-is_long.ensures told)
