-- The lines of a level, one after another.
use Rattle.std.proofs.Common.{◌≡◌, ◌∙◌, ◌-◌, ℕ, Bool, cond, List, [], ◌∷◌, ◌++◌, Option, Some, None, refl, sym, ap, subst}
use Rattle.std.specs.Prelude.{is_some}
use Rattle.std.specs.Option.{option_to_list}
use Rattle.std.specs.Io.KnownBytes.{Appends}
use Rattle.std.proofs.KnownBytes.{Appends-nil, Appends-trans}
use Rattle.std.proofs.lemmas.Bool.{eq-eqb}
use Rattle.std.proofs.lemmas.List.{append-nil}
use Rattle.std.proofs.lemmas.List.Concat.{flat_map-append}
use Rattle.apf_objects.specs.Cluster.{ClusterSaid}
use Rattle.apf_audit.specs.AuditEvent.{Event}
use Rattle.apf_audit.specs.declared.choice.Choice.{Choice}
use Rattle.apf_joined_reader.specs.Reading.{Inputs, JoinedView}
use Rattle.apf_cluster.specs.Requests.{is_place, level_of, name_of, schema_at, start_of}
use Rattle.apf_cluster.specs.Runs.{HasFed}
use Rattle.apf_cluster.specs.Traces.{HasWrittenTrace, HaveWritten, line_of, lines_of, trace_text}
use Rattle.apf_cluster.proofs.HandedOut.{all_fed, start_stays, told_fed}

-- nothing was written
pub none_written : (choice : Choice) (c : ClusterSaid) (place start : ℕ) (was left : Inputs) (next : Option Event) (v : JoinedView) (out : Option (List ℕ)) → HasFed choice was left [] next v → start ≡ start_of (option_to_list next)
    → HaveWritten choice c place start was left next v out out
none_written choice c place start was left next v out fed is = record { told = []; fed = fed; written = Appends-nil out; start_is = is }

-- the line of one more
pub more_written : (choice : Choice) (c : ClusterSaid) (place start : ℕ) (was mid left : Inputs) (e : Event) (next : Option Event) (v v' : JoinedView) (before out after : Option (List ℕ))
    → ((told : List Event) → HasFed choice was mid told (Some e) v → HasFed choice was left (told ++ e ∷ []) next v') → Appends out after (lines_of c place start e)
    → HaveWritten choice c place start was mid (Some e) v before out → HaveWritten choice c place start was left next v' before after
more_written choice c place start was mid left e next v v' before out after fed line h =
    let f = lines_of c place start in
    record {
      told = h.told ++ e ∷ [];
      fed = fed h.told h.fed;
      written = subst (Appends before after) (sym (flat_map-append f h.told (e ∷ []) ∙ ap (λ (l : List ℕ). trace_text c place start h.told ++ l) (append-nil (f e))))
          (Appends-trans before out after (trace_text c place start h.told) (f e) h.written line);
      start_is = h.start_is ∙ sym (start_stays h.told e (option_to_list next));
    }

-- the whole log was read
pub all_written : (choice : Choice) (c : ClusterSaid) (place start size : ℕ) (has_lines : Bool) (was left : Inputs) (v : JoinedView) (before after : Option (List ℕ)) → v.reader.window.size ≡ size → is_some v.halves ≡ has_lines
    → HaveWritten choice c place start was left None v before after → HasWrittenTrace choice c place size has_lines was left v before after
all_written choice c place start size has_lines was left v before after same lines h =
    let first : start ≡ start_of h.told = h.start_is ∙ ap start_of (append-nil h.told) in
    record {
      joins = h.fed.joins;
      all = all_fed choice size has_lines was left h.told v same lines h.fed;
      written = subst (λ (l : List Event). Appends before after (trace_text c place (start_of l) l)) (told_fed choice was left h.told v h.fed)
          (subst (λ (s : ℕ). Appends before after (trace_text c place s h.told)) first h.written);
    }

-- the line of a request of the level
pub one_line : (c : ClusterSaid) (place start : ℕ) (e : Event) (name : List ℕ) (at : ℕ) → level_of c e ≡ Some place → name_of (schema_at c.schemas e.schema) ≡ name → at ≡ e.received - start → lines_of c place start e ≡ line_of name at e
one_line c place start e name at level is when =
    let line = line_of (name_of (schema_at c.schemas e.schema)) (e.received - start) e in
    ap (λ (o : Option ℕ). cond (is_place o place) line []) level ∙ (ap (λ (b : Bool). cond b line []) (eq-eqb place place refl)
    ∙ (ap (λ (n : List ℕ). line_of n (e.received - start) e) is ∙ ap (λ (t : ℕ). line_of name t e) (sym when)))
