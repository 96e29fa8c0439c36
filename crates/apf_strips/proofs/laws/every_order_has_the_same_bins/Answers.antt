-- Sums are the same in any order, and the bins are given by the spans.
use Rattle.std.proofs.Common.{ℕ, ◌≤◌, ◌*◌, sym, ◌∙◌, ap}
use Rattle.std.specs.Prelude.{sum_by}
use Rattle.std.proofs.lemmas.List.Elements.{All-from_recursion, recursion_from_All}
use Rattle.std.proofs.lemmas.List.Sorted.{All-permutation, sum_by-IsPermutation}
use Rattle.apf_strips.specs.Limits.{bin_count, width_after}
use Rattle.apf_strips.specs.Spans.{Span, part_of, whole_of, width_of}
use Rattle.apf_strips.proofs.Wholes.{all_bins}
use Rattle.apf_strips.proofs.laws.every_order_has_the_same_bins.Goals as goal

pub returns : goal.returns
returns c = record {
  order = λ spans others v moved are. record {
    bins = λ bin l. are.bins bin l ∙ sym (sum_by-IsPermutation (part_of (width_of v) bin) spans others moved);
    total = are.total ∙ sym (sum_by-IsPermutation whole_of spans others moved);
    inside = recursion_from_All (λ (s : Span). s.to ≤ bin_count * width_of v) others (All-permutation (λ (s : Span). s.to ≤ bin_count * width_of v) spans others moved (All-from_recursion (λ (s : Span). s.to ≤ bin_count * width_of v) spans are.inside));
    in_order = recursion_from_All (λ (s : Span). s.from ≤ s.to) others (All-permutation (λ (s : Span). s.from ≤ s.to) spans others moved (All-from_recursion (λ (s : Span). s.from ≤ s.to) spans are.in_order));
  };
  one = λ spans u v a b same bin l.
      let wide = ap (λ (d : ℕ). sum_by (part_of (width_after d) bin) spans) same in
      a.bins bin l ∙ wide ∙ sym (b.bins bin l);
  all = λ spans v are count. all_bins spans v are count;
}
