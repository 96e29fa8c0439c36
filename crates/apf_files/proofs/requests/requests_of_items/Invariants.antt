use Rattle.std.proofs.Common.{◌≡◌, All, drop, vec_len}
use Rattle.serde_json.specs.View.{items_view}
use Rattle.apf_files.specs.RequestsFile.{requests_from, IsRequestInRange}
use Rattle.apf_files.specs.FirstFault.{with_front}
use Rattle.apf_files.proofs.requests.requests_of_items.Given as goal

abbrev pub invariant-loop-i : goal.invariant-loop-i
invariant-loop-i l = record {
  so_far : with_front l.requests.items (requests_from l.count l.i (items_view (drop l.i l.items))) ≡ requests_from l.count 0 (items_view l.items);
  count : vec_len l.requests ≡ l.i;
  ranges : All (IsRequestInRange l.count) l.requests.items;
}
