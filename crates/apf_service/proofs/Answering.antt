-- What is said of lines, of their answers and of what was written, one behind the other.
use Rattle.std.proofs.Common.{◌≡◌, ◌≢◌, ℕ, ◌+◌, List, [], ◌∷◌, ◌++◌, Bool, true, false, length, Option, None, Some, IfSome, Result, Ok, Err, OnOk, MatchResult, refl, sym, ap, ◌∙◌, subst, append_assoc, append-nil, map, arith}
use Rattle.std.specs.List.{flat_map}
use Rattle.std.proofs.lemmas.List.Elements.{All-append}
use Rattle.std.specs.Io.KnownBytes.{Keeps, Appends, Consumes}
use Rattle.apf_lines.specs.Lines.{lf, HasNoLf, with_lf, AreLines, LinesView, AreUncut, AreDropped}
use Rattle.apf_service.specs.Kept.{State}
use Rattle.apf_service.specs.Serving.{AnswersAll, WritesAll, rest_text}

-- ---- what was written

pub Keeps-refl : (a : Option (List ℕ)) → Keeps a a
Keeps-refl None = tt
Keeps-refl (Some x) = refl

pub Keeps-trans : (a b c : Option (List ℕ)) → Keeps a b → Keeps b c → Keeps a c
Keeps-trans None b c p q = tt
Keeps-trans (Some x) None c p q = absurd p
Keeps-trans (Some x) (Some y) None p q = absurd q
Keeps-trans (Some x) (Some y) (Some z) p q = q ∙ p

-- known bytes that stayed grow by these
pub Keeps-Appends : (a b c : Option (List ℕ)) (bs : List ℕ) → Keeps a b → Appends b c bs → Appends a c bs
Keeps-Appends None b c bs p q = tt
Keeps-Appends (Some x) None c bs p q = absurd p
Keeps-Appends (Some x) (Some y) None bs p q = absurd q
Keeps-Appends (Some x) (Some y) (Some z) bs p q = q ∙ ap (λ (l : List ℕ). l ++ bs) p

-- they grew by these and then stayed
pub Appends-Keeps : (a b c : Option (List ℕ)) (bs : List ℕ) → Appends a b bs → Keeps b c → Appends a c bs
Appends-Keeps None b c bs p q = tt
Appends-Keeps (Some x) None c bs p q = absurd p
Appends-Keeps (Some x) (Some y) None bs p q = absurd q
Appends-Keeps (Some x) (Some y) (Some z) bs p q = q ∙ p

WritesAll-kept_before : (texts : List (Option (List ℕ))) (a b c : Option (List ℕ)) → Keeps a b → WritesAll texts b c → WritesAll texts a c
WritesAll-kept_before [] a b c p q = Keeps-trans a b c p q
WritesAll-kept_before (None ∷ texts) a b c p q = q
WritesAll-kept_before (Some text ∷ texts) a b c p q = (q.0, Keeps-Appends a b q.0 text p q.1, q.2)

-- these texts were written, and behind them those
pub WritesAll-append : (texts more : List (Option (List ℕ))) (a b c : Option (List ℕ)) → WritesAll texts a b → WritesAll more b c → WritesAll (texts ++ more) a c
WritesAll-append [] more a b c p q = WritesAll-kept_before more a b c p q
WritesAll-append (None ∷ texts) more a b c p q = (p.0, WritesAll-append texts more p.0 b c p.1 q)
WritesAll-append (Some text ∷ texts) more a b c p q = (p.0, p.1, WritesAll-append texts more p.0 b c p.2 q)

-- nothing more was written
pub WritesAll-kept : (texts : List (Option (List ℕ))) (a b c : Option (List ℕ)) → WritesAll texts a b → Keeps b c → WritesAll texts a c
WritesAll-kept [] a b c p q = Keeps-trans a b c p q
WritesAll-kept (None ∷ texts) a b c p q = (p.0, WritesAll-kept texts p.0 b c p.1 q)
WritesAll-kept (Some text ∷ texts) a b c p q = (p.0, p.1, WritesAll-kept texts p.0 b c p.2 q)

-- one text, by what is stated of it
pub WritesAll-one : (answer : Option (List ℕ)) (a b : Option (List ℕ)) → IfSome answer (Appends a b) → WritesAll (answer ∷ []) a b
WritesAll-one None a b p = (b, Keeps-refl b)
WritesAll-one (Some text) a b p = (b, p, Keeps-refl b)

Keeps-nil : (a b : Option (List ℕ)) → Keeps a b → Appends a b []
Keeps-nil None b p = tt
Keeps-nil (Some x) None p = absurd p
Keeps-nil (Some x) (Some y) p = p ∙ sym (append-nil x)

Appends-trans : (a b c : Option (List ℕ)) (bs cs : List ℕ) → Appends a b bs → Appends b c cs → Appends a c (bs ++ cs)
Appends-trans None b c bs cs p q = tt
Appends-trans (Some x) None c bs cs p q = absurd p
Appends-trans (Some x) (Some y) None bs cs p q = absurd q
Appends-trans (Some x) (Some y) (Some z) bs cs p q = q ∙ ap (λ (l : List ℕ). l ++ cs) p ∙ append_assoc x bs cs

-- texts that are stated
pub all_written : (texts : List (List ℕ)) (a b : Option (List ℕ)) → WritesAll (map (λ text. Some text) texts) a b → Appends a b (flat_map (λ text. text) texts)
all_written [] a b p = Keeps-nil a b p
all_written (text ∷ texts) a b p = Appends-trans a p.0 b text (flat_map (λ text. text) texts) p.1 (all_written texts p.0 b p.2)

-- ---- what was read

pub Consumes-nil : (a b : Option (List ℕ)) → Keeps a b → Consumes a b []
Consumes-nil None b p = tt
Consumes-nil (Some x) None p = absurd p
Consumes-nil (Some x) (Some y) p = sym p

pub Consumes-trans : (a b c : Option (List ℕ)) (bs cs : List ℕ) → Consumes a b bs → Consumes b c cs → Consumes a c (bs ++ cs)
Consumes-trans None b c bs cs p q = tt
Consumes-trans (Some x) None c bs cs p q = absurd p
Consumes-trans (Some x) (Some y) None bs cs p q = absurd q
Consumes-trans (Some x) (Some y) (Some z) bs cs p q = p ∙ ap (λ (l : List ℕ). bs ++ l) q ∙ sym (append_assoc bs cs z)

-- ---- lines

flat_map-append : (xs ys : List (List ℕ)) → flat_map with_lf (xs ++ ys) ≡ flat_map with_lf xs ++ flat_map with_lf ys
flat_map-append [] ys = refl
flat_map-append (x ∷ xs) ys = ap (λ (l : List ℕ). with_lf x ++ l) (flat_map-append xs ys) ∙ sym (append_assoc (with_lf x) (flat_map with_lf xs) (flat_map with_lf ys))

-- of what stands behind lines, lines were cut off
pub AreLines-append : (bytes : List ℕ) (xs ys : List (List ℕ)) (rest later : List ℕ) → AreLines bytes xs rest → AreLines rest ys later → AreLines bytes (xs ++ ys) later
AreLines-append bytes xs ys rest later a b = record {
  joined = a.joined ∙ ap (λ (l : List ℕ). flat_map with_lf xs ++ l) b.joined
      ∙ sym (append_assoc (flat_map with_lf xs) (flat_map with_lf ys) later)
      ∙ ap (λ (l : List ℕ). l ++ later) (sym (flat_map-append xs ys));
  whole = All-append HasNoLf xs ys a.whole b.whole;
}

-- bytes came behind the rest
pub AreLines-more : (bytes : List ℕ) (xs : List (List ℕ)) (rest more : List ℕ) → AreLines bytes xs rest → AreLines (bytes ++ more) xs (rest ++ more)
AreLines-more bytes xs rest more a = record {
  joined = ap (λ (l : List ℕ). l ++ more) a.joined ∙ append_assoc (flat_map with_lf xs) rest more;
  whole = a.whole;
}

dropped_whole : (longest : ℕ) (is_skipped : Bool) (dropped : List ℕ) → AreDropped longest is_skipped dropped → HasNoLf dropped
dropped_whole longest true dropped are = are.1
dropped_whole longest false dropped are = subst HasNoLf (sym are) (λ k d h. absurd (omega (arith, h)))

-- what is not yet cut off has no LF where what is kept has none
pub whole_by_kept : (bytes : List ℕ) (view : LinesView) → AreUncut bytes view → HasNoLf view.kept → HasNoLf bytes
whole_by_kept bytes view u none = subst HasNoLf (sym u.both) (All-append (λ b. b ≢ lf) u.dropped view.kept (dropped_whole view.longest view.is_skipped u.dropped u.are) none)

-- ---- answers

-- a level went from line to line, and then on
pub AnswersAll-append : (name : List ℕ) (number : ℕ) (xs ys : List (List ℕ)) (answers more : List (Option (List ℕ))) (a b c : State) → AnswersAll name number xs answers a b → AnswersAll name (number + length xs) ys more b c → AnswersAll name number (xs ++ ys) (answers ++ more) a c
AnswersAll-append name number [] ys [] more a b c p q = subst (λ (s : State). AnswersAll name number ys more s c) p (subst (λ (n : ℕ). AnswersAll name n ys more b c) (omega arith) q)
AnswersAll-append name number [] ys (answer ∷ answers) more a b c p q = absurd p
AnswersAll-append name number (x ∷ xs) ys [] more a b c p q = absurd p
AnswersAll-append name number (x ∷ xs) ys (answer ∷ answers) more a b c p q =
    (p.0, p.1, AnswersAll-append name (number + 1) xs ys answers more p.0 b c p.2 (subst (λ (n : ℕ). AnswersAll name n ys more b c) (omega arith) q))

-- ---- where it is told whether a call wrote

-- what is so where a call wrote, where it did
pub by_written : {T E F : Type 0} (done : Result T E) (told : Result T F) (x : T) (fault : F) (P : Type 0) → MatchResult done (λ y. told ≡ Ok y) (λ _. told ≡ Err fault) → told ≡ Ok x → OnOk done P → P
by_written (Ok y) told x fault P is was p = p
by_written (Err e) told x fault P is was p = absurd cc

-- ---- the bytes behind the last line

pub no_rest : (number : ℕ) (rest : List ℕ) (a : Option (List ℕ)) → rest ≡ [] → Appends a a (rest_text number rest)
no_rest number rest None none = tt
no_rest number rest (Some x) none = rw none (sym (append-nil x))
