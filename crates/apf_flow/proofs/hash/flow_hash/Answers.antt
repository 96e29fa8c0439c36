use Rattle.std.proofs.Common.{◌≡◌, [], ◌∷◌, ◌++◌, take, w64, append_assoc, ◌∙◌, ap, rules}
use Rattle.std.specs.Int.{from_le_bytes}
use Rattle.sha2.specs.Sha256.{sha256}
use Rattle.apf_flow.specs.Flow.{flow_hash_of}
use Rattle.apf_flow.proofs.hash.flow_hash.Goals as goal

pub returns : goal.returns
unfolding flow_hash_of
returns c =
    let held = c.update-3.ensures _ (c.update-2.ensures _ (c.update.ensures _ c.new-hasher.ensures)) in
    let digest : c.finalize-digest.result ≡ sha256 ((c.args.schema.now ++ c.as_slice.result.now) ++ c.args.distinguisher.now)
    = c.finalize-digest.ensures _ held in
    let zero_byte : c.as_slice.result.now ≡ 0 ∷ [] = search rules in
    let joined : c.finalize-digest.result ≡ sha256 (c.args.schema.now ++ 0 ∷ c.args.distinguisher.now)
    = digest ∙ ap (λ z. sha256 ((c.args.schema.now ++ z) ++ c.args.distinguisher.now)) zero_byte
    ∙ ap sha256 (append_assoc c.args.schema.now (0 ∷ []) c.args.distinguisher.now) in
    let eight = rw c.unwrap.ensures at c.split_first_chunk.ensures.cases in
    c.from_le_bytes.ensures ∙ ap (λ d. from_le_bytes w64 d) (eight.0 ∙ ap (λ d. take 8 d) joined)
