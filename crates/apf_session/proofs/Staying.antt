-- A request that was told a decision is told no other one by the calls that bring it to its end.
use Rattle.std.proofs.Common.{◌≡◌, ◌≢◌, ap, refl, subst, not, ◌∙◌, sym}
use Rattle.std.specs.Prelude.{◌==◌}
use Rattle.apf_session.specs.declared.token.Token.{Token}
use Rattle.apf_session.specs.declared.token.Token.TheVariants as tokens
use Rattle.apf_session.specs.declared.answer.Answer.{Answer}
use Rattle.apf_session.specs.declared.answer.Answer.TheVariants as answers
use Rattle.apf_session.specs.declared.answer.Place.TheVariants as places
use Rattle.apf_session.specs.Requests.{RequestView, place_of, told_by, Says, Answers, ReleasesAs, StaysTold}

pub trans : (a b c : Token) → StaysTold a b → StaysTold b c → StaysTold a c
trans a b c ab bc some = bc (λ none. some (sym (ab some) ∙ none)) ∙ ab some

pub same : (a b : Token) → b ≡ a → StaysTold a b
same a b is some = ap told_by is

pub polled : (a b : RequestView) (answer : Answer) → Answers places.Waits a answer b → StaysTold a.token b.token
polled a b answer is = by_token a.token (λ e. ap (λ (r : RequestView). r.token) (is.wrong e).1)
  where
    by_token : (t : Token) → (place_of t ≢ places.Waits → b.token ≡ t) → StaysTold t b.token
    by_token (tokens.Fresh pass) kept = same (tokens.Fresh pass) b.token (kept (λ e. cc))
    by_token (tokens.Waiting pass) kept = λ some. absurd (some refl)
    by_token (tokens.Running pass) kept = same (tokens.Running pass) b.token (kept (λ e. cc))
    by_token (tokens.Done pass) kept = same (tokens.Done pass) b.token (kept (λ e. cc))
    by_token tokens.Gone kept = same tokens.Gone b.token (kept (λ e. cc))

pub finished : (a b : RequestView) (answer : Answer) → Answers places.Runs a answer b → ReleasesAs a.token answer b.token → StaysTold a.token b.token
finished a b answer is by = by_token a.token (λ e. ap (λ (r : RequestView). r.token) (is.wrong e).1) by
  where
    by_token : (t : Token) → (place_of t ≢ places.Runs → b.token ≡ t) → ReleasesAs t answer b.token → StaysTold t b.token
    by_token (tokens.Fresh pass) kept released = same (tokens.Fresh pass) b.token (kept (λ e. cc))
    by_token (tokens.Waiting pass) kept released = same (tokens.Waiting pass) b.token (kept (λ e. cc))
    by_token (tokens.Running pass) kept released = λ some.
        ap told_by released.4 ∙ subst (λ (u : Token). Says (answers.Released (not (released.1.waiters == 0))) u) released.4 (subst (λ (x : Answer). Says x b.token) released.3 is.says)
    by_token (tokens.Done pass) kept released = same (tokens.Done pass) b.token (kept (λ e. cc))
    by_token tokens.Gone kept released = same tokens.Gone b.token (kept (λ e. cc))
