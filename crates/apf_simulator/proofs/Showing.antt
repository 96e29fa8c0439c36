-- What is told of requests in their order.
use Rattle.std.proofs.Common.{◌≡◌, ℕ, suc, List, [], ◌∷◌, ◌++◌, length, map, Bool, true, Option, Some, refl, sym, ap, ◌∙◌, subst, append_assoc, arith}
use Rattle.std.specs.List.{AllByRecursion, flat_map}
use Rattle.std.specs.Option.{option_to_list}
use Rattle.std.specs.Io.KnownBytes.{Appends}
use Rattle.std.proofs.KnownBytes.{Appends-trans}
use Rattle.std.proofs.lemmas.List.{append-nil, flat_map_more, map-append}
use Rattle.apf_traces.specs.declared.request.TraceRequest.{TraceRequest}
use Rattle.apf_stream.specs.declared.ended.Ended.{Ended}
use Rattle.apf_simulator.specs.Fates.{fate_text, fates_header}
use Rattle.apf_simulator.specs.Hearing.{AllTold, AreHeld, AreParts, Fate, IsFate, Tells, TellsStill, came_more}
use Rattle.apf_simulator.specs.Turns.{Turn, told_by}
use Rattle.apf_simulator.specs.declared.held.Held.{Held}
use Rattle.apf_simulator.proofs.Going.{came_then, told_then}
use Rattle.apf_simulator.proofs.Holding.{Came, came_of, fates_more}

abbrev pub came_to : Fate → Came
came_to f = f.came

abbrev pub text_of : Fate → List ℕ
text_of f = fate_text f.came f.ended

one_fate : (told : List Ended) (fates : List Fate) (f : Fate) → AllByRecursion (IsFate told) fates → IsFate told f → AllByRecursion (IsFate told) (fates ++ f ∷ [])
one_fate told [] f all is = (is, tt)
one_fate told (x ∷ fates) f all is = (all.0, one_fate told fates f all.1 is)

told_of_first : (told : List Ended) (back : List Came) (x : Came) (e : Ended) (rest : List Held) → AreHeld back told (record { came = x; ended = Some e } ∷ rest) → IsFate told (record { came = x; ended = e })
told_of_first told back x e rest are = are.known.0

-- one more is told
pub tells_one : (before was mid now : Option (List ℕ)) (turns : List Turn) (b : Bool) (x : Came) (e : Ended) (old rest : List Held) → old ≡ record { came = x; ended = Some e } ∷ rest
    → TellsStill was b mid true → Appends mid now (fate_text x e) → Tells before was turns b old → Tells before now turns true rest
tells_one before was mid now turns b x e old rest is still text t =
    let f : Fate = record { came = x; ended = e } in
    let h : Held = record { came = x; ended = Some e } in
    let held : AreHeld t.back (told_by turns) (h ∷ rest) = subst (AreHeld t.back (told_by turns)) is t.held_are in
    let more = map came_of rest in
    record {
      fates = t.fates ++ f ∷ [];
      back = more;
      written =
          subst (Appends before now) (flat_map_more text_of fates_header t.fates f)
          (Appends-trans before mid now (fates_header ++ flat_map text_of t.fates) (fate_text x e) (still before t.fates t.begun t.written) text);
      begun = tt;
      are = t.are ∙ ap (λ (l : List Came). map came_to t.fates ++ l) (sym held.are) ∙ (sym (append_assoc (map came_to t.fates) (x ∷ []) more) ∙ ap (λ (l : List Came). l ++ more) (sym (map-append came_to t.fates (f ∷ []))));
      told = one_fate (told_by turns) t.fates f t.told (told_of_first (told_by turns) t.back x e rest held);
      held_are = record { are = refl; known = held.known.1 };
    }

nothing_held : (held : List Held) (back : List Came) → length held ≡ 0 → map came_of held ≡ back → back ≡ []
nothing_held [] back none are = sym are
nothing_held (h ∷ held) back none are = absurd (omega arith)

-- all are told
pub tells_all : (before was now : Option (List ℕ)) (turns : List Turn) (b : Bool) (held : List Held) → TellsStill was b now true → length held ≡ 0 → Tells before was turns b held → AllTold before now turns
tells_all before was now turns b held still none t = record {
  fates = t.fates;
  are = sym (t.are ∙ ap (λ (l : List Came). map came_to t.fates ++ l) (nothing_held held t.back none t.held_are.are) ∙ append-nil (map came_to t.fates));
  told = t.told;
  written = still before t.fates t.begun t.written;
}

abbrev pub Takes : Option Came → List Ended → List Held → List Held → Type 0
Takes came ends old new = (all : List Came) (told : List Ended) → AreHeld all told old → AreHeld (came_more all came) (told ++ ends) new

pub held_then : (turns : List Turn) (came : Option Came) (ends : List Ended) (back : List Came) (old new : List Held) → Takes came ends old new → AreHeld back (told_by turns) old
    → AreHeld (came_more back came) (told_by (turns ++ record { came = came; ends = ends } ∷ [])) new
held_then turns came ends back old new takes held =
    subst (λ (l : List Ended). AreHeld (came_more back came) l new) (sym (told_then turns (record { came = came; ends = ends }))) (takes back (told_by turns) held)

-- one turn more, of which nothing is told yet
pub tells_more : (before now : Option (List ℕ)) (turns : List Turn) (b : Bool) (came : Option Came) (ends : List Ended) (old new : List Held) → Takes came ends old new
    → Tells before now turns b old → Tells before now (turns ++ record { came = came; ends = ends } ∷ []) b new
tells_more before now turns b came ends old new takes t =
    let turn : Turn = record { came = came; ends = ends } in record {
      fates = t.fates;
      back = came_more t.back came;
      written = t.written;
      begun = t.begun;
      are = came_then turns turn ∙ (ap (λ (l : List Came). l ++ option_to_list came) t.are ∙ append_assoc (map came_to t.fates) t.back (option_to_list came));
      told = subst (λ (l : List Ended). AllByRecursion (IsFate l) t.fates) (sym (told_then turns turn)) (fates_more (told_by turns) ends t.fates t.told);
      held_are = held_then turns came ends t.back old new takes t.held_are;
    }

parts_many : (held : List Held) (requests : List TraceRequest) (ends : List Ended) → AreParts held requests ends → (length requests ≡ length held) × (length ends ≡ length held)
parts_many [] [] [] parts = (refl, refl)
parts_many [] [] (e ∷ ends) parts = absurd parts
parts_many [] (r ∷ requests) ends parts = absurd parts
parts_many (h ∷ held) [] ends parts = absurd parts
parts_many (h ∷ held) (r ∷ requests) [] parts = absurd parts
parts_many (h ∷ held) (r ∷ requests) (e ∷ ends) parts =
    let m = parts_many held requests ends parts.2 in
    (ap suc m.0, ap suc m.1)

pub as_many : (held : List Held) (requests : List TraceRequest) (ends : List Ended) → AreParts held requests ends → (length requests ≡ length held) × (length ends ≡ length held)
as_many held requests ends parts = parts_many held requests ends parts

pub part_more : (held : List Held) (requests : List TraceRequest) (ends : List Ended) (h : Held) (e : Ended) → h.ended ≡ Some e → AreParts held requests ends → AreParts (held ++ h ∷ []) (requests ++ h.came.item ∷ []) (ends ++ e ∷ [])
part_more [] [] [] h e is parts = (refl, is, tt)
part_more [] [] (x ∷ ends) h e is parts = absurd parts
part_more [] (r ∷ requests) ends h e is parts = absurd parts
part_more (g ∷ held) [] ends h e is parts = absurd parts
part_more (g ∷ held) (r ∷ requests) [] h e is parts = absurd parts
part_more (g ∷ held) (r ∷ requests) (x ∷ ends) h e is parts = (parts.0, parts.1, part_more held requests ends h e is parts.2)
