-- One request more, and its line.
use Rattle.std.proofs.Common.{◌≡◌, ℕ, List, [], ◌∷◌, ◌++◌, Option, Some, None, Result, Ok, Err, refl, sym, ap, ◌∙◌, subst, append-nil}
use Rattle.std.specs.Prelude.{All, option_map}
use Rattle.std.specs.Option.{option_to_list}
use Rattle.std.specs.Io.KnownBytes.{Consumes}
use Rattle.std.proofs.KnownBytes.{Consumes-nil}
use Rattle.std.proofs.lemmas.List.Concat.{flat_map-append}
use Rattle.std.proofs.lemmas.List.Elements.{All-append, All-from_recursion}
use Rattle.apf_request_lines.specs.declared.line.RequestLine.{RequestLine}
use Rattle.apf_request_halves.specs.Reading as lines
use Rattle.apf_request_halves.specs.declared.fault.HalvesFault.{HalvesFault}
use Rattle.apf_audit.specs.AuditEvent.{Event}
use Rattle.apf_audit.specs.declared.choice.By.{By}
use Rattle.apf_joined_reader.specs.Counts.{CountsSaid, counts_from, counts_then, name_by}
use Rattle.apf_joined_reader.specs.Joins.{Join, asked_of, line_by}
use Rattle.apf_joined_reader.specs.Looking.{FoundBy, LooksUp, join_of}
use Rattle.apf_joined_reader.specs.Reading.{AreAsked, IsAskedById, IsNotAsked}

-- one more was asked for
pub asked_push : (joins : List Join) (e : Event) (asked : Option lines.Asked) → asked_of (joins ++ join_of e asked ∷ []) ≡ asked_of joins ++ option_to_list asked
asked_push joins e asked =
    let f : Join → List lines.Asked = λ j. option_to_list j.asked in
    flat_map-append f joins (join_of e asked ∷ []) ∙ ap (λ (l : List lines.Asked). asked_of joins ++ l) (append-nil (option_to_list asked))

-- this was asked for, by the id of the request
pub asked_more : (joins : List Join) (e : Event) (asked : Option lines.Asked) (bytes : List ℕ) (left : Option (List ℕ)) (v : lines.HalvesView) → All IsAskedById joins → option_map (λ (a : lines.Asked). a.id) asked ≡ e.audit_id
    → lines.HasRead bytes (asked_of joins ++ option_to_list asked) left v → AreAsked (Some v) bytes (joins ++ join_of e asked ∷ []) left
asked_more joins e asked bytes left v own id read = (
  All-append IsAskedById joins (join_of e asked ∷ []) own (All-from_recursion IsAskedById (join_of e asked ∷ []) (id, tt)),
  subst (λ (l : List lines.Asked). lines.HasRead bytes l left v) (sym (asked_push joins e asked)) read,
)

-- no log is read
pub none_asked : (joins : List Join) (e : Event) (bytes : List ℕ) (left : Option (List ℕ)) → All IsNotAsked joins → AreAsked None bytes (joins ++ join_of e None ∷ []) left
none_asked joins e bytes left own = All-append IsNotAsked joins (join_of e None ∷ []) own (All-from_recursion IsNotAsked (join_of e None ∷ []) (refl, tt))

-- what the call for a line came to
pub by_id : (e : Event) (id : List ℕ) (joins : List Join) (bytes : List ℕ) (left : Option (List ℕ)) (result : Result (Option RequestLine) HalvesFault) (v : lines.HalvesView) → e.audit_id ≡ Some id → All IsAskedById joins
    → lines.Answers id bytes (asked_of joins) left result v → FoundBy e bytes joins left result v
by_id e id joins bytes left (Ok (Some line)) v is own a = (Some (lines.asked_and id a.0 line), refl, asked_more joins e (Some (lines.asked_and id a.0 line)) bytes left v own (sym is) a.1)
by_id e id joins bytes left (Ok None) v is own a = (Some (record { id = id; found = None }), refl, asked_more joins e (Some (record { id = id; found = None })) bytes left v own (sym is) a)
by_id e id joins bytes left (Err fault) v is own a = a

pub looked_up : (e : Event) (id : Option (List ℕ)) (was left : Option (List ℕ)) (old : lines.HalvesView) (result : Result (Option RequestLine) HalvesFault) (new : lines.HalvesView) → e.audit_id ≡ id → LooksUp id was left old result new
    → (bytes : List ℕ) (joins : List Join) → AreAsked (Some old) bytes joins was → (more : List ℕ) × Consumes was left more × FoundBy e (bytes ++ more) joins left result new
looked_up e None was left old result new is looks bytes joins asked =
    let read = subst (λ (l : List lines.Asked). lines.HasRead (bytes ++ []) l was old) (sym (append-nil (asked_of joins))) (subst (λ (b : List ℕ). lines.HasRead b (asked_of joins) was old) (sym (append-nil bytes)) asked.1) in
    let found : FoundBy e (bytes ++ []) joins was (Ok None) old = (None, refl, asked_more joins e None (bytes ++ []) was old asked.0 (sym is) read) in (
      [],
      subst (λ (l : Option (List ℕ)). Consumes was l []) (sym looks.1) (Consumes-nil was),
      subst (λ (r : Result (Option RequestLine) HalvesFault). FoundBy e (bytes ++ []) joins left r new) (sym looks.0)
          (subst (λ (l : Option (List ℕ)). FoundBy e (bytes ++ []) joins l (Ok None) new) (sym looks.1) (subst (λ (v : lines.HalvesView). FoundBy e (bytes ++ []) joins was (Ok None) v) (sym looks.2) found)),
    )
looked_up e (Some id) was left old result new is looks bytes joins asked =
    let a = looks bytes (asked_of joins) asked.1 in
    (a.0, a.1, by_id e id joins (bytes ++ a.0) left result new is asked.0 a.2)

-- one more was counted
pub counts_push : (by : By) (c : CountsSaid) (joins : List Join) (j : Join) → counts_from by c (joins ++ j ∷ []) ≡ counts_then (name_by by j.event.schema) j.event (line_by j.asked) (counts_from by c joins)
counts_push by c [] j = refl
counts_push by c (x ∷ joins) j = counts_push by (counts_then (name_by by x.event.schema) x.event (line_by x.asked) c) joins j

-- nothing more was read of the server's own log
pub still_asked : (halves : Option lines.HalvesView) (bytes : List ℕ) (joins : List Join) (left : Option (List ℕ)) → AreAsked halves bytes joins left → AreAsked halves (bytes ++ []) joins left
still_asked halves bytes joins left asked = subst (λ (b : List ℕ). AreAsked halves b joins left) (sym (append-nil bytes)) asked

-- ---- the line of a request, where the server's own log is read

pub found : (e : Event) (was left : Option (List ℕ)) (halves : Option lines.HalvesView) (old new : lines.HalvesView) (line : Option RequestLine) → halves ≡ Some old → LooksUp e.audit_id was left old (Ok line) new
    → (bytes : List ℕ) (joins : List Join) → AreAsked halves bytes joins was → (more : List ℕ) × Consumes was left more × FoundBy e (bytes ++ more) joins left (Ok line) new
found e was left halves old new line there looks bytes joins asked =
    looked_up e e.audit_id was left old (Ok line) new refl looks bytes joins (subst (λ (h : Option lines.HalvesView). AreAsked h bytes joins was) there asked)

pub unread : (e : Event) (was left : Option (List ℕ)) (halves : Option lines.HalvesView) (old new : lines.HalvesView) (fault : HalvesFault) → halves ≡ Some old → LooksUp e.audit_id was left old (Err fault) new
    → (bytes : List ℕ) (joins : List Join) → AreAsked halves bytes joins was
    → (more : List ℕ) × Consumes was left more × ((view : lines.HalvesView) × (◌≡◌ {A = Option lines.HalvesView} (Some new) (Some view)) × lines.Stops (bytes ++ more) (asked_of joins) left fault view)
unread e was left halves old new fault there looks bytes joins asked =
    let a = looked_up e e.audit_id was left old (Err fault) new refl looks bytes joins (subst (λ (h : Option lines.HalvesView). AreAsked h bytes joins was) there asked) in
    (a.0, a.1, (new, refl, a.2))
