-- What the fault of an audit log says of the line that it names.
use Rattle.std.proofs.Common.{subst, ◌≡◌, ◌⊎◌, inl, inr, ℕ, suc, ◌+◌, ◌-◌, ◌<◌, List, [], ◌∷◌, length, Bool, true, false, cond, Option, Some, None, Result, Ok, Err, codes, refl, sym, ap, arith}
use Rattle.std.specs.Prelude.{is_none, nat_le, option_and_then, option_map}
use Rattle.serde_json.specs.Data.{Data}
use Rattle.serde_json.specs.Find.{get, as_str}
use Rattle.apf_files.specs.FirstFault.{◌>>=◌, or_fault}
use Rattle.apf_files.specs.JsonFile.{text_at, value_of}
use Rattle.apf_traces.specs.TraceFile.{Line}
use Rattle.apf_audit.specs.AuditEvent.{BesideSaid, beside_of, event_by, event_of, flow_of, instant_at, is_taken, is_unnamed, name_by, name_found, namespace_by, namespace_of, place_among, ran_at, run_at, run_by, said_by, schema_of, short, taken_by, taken_of, text_within, user_of, wait_at, wait_by, was_turned_away, max_name}
use Rattle.apf_audit.specs.AuditFaults.{line_of}
use Rattle.apf_audit.specs.AuditLog.{is_unfinished, judged_by, judged_line, max_line}
use Rattle.apf_audit.specs.Choice.{distinguisher_by, is_chosen, within}
use Rattle.apf_audit.specs.Times.{instant_of, run_of}
use Rattle.apf_objects.specs.declared.schema.Distinguisher.{Distinguisher}
use Rattle.apf_objects.specs.declared.schema.Distinguisher.TheVariants.{User, Namespace, Nothing}
use Rattle.apf_audit.specs.declared.choice.By.{By}
use Rattle.apf_audit.specs.declared.choice.By.TheVariants.{User as ByUser, Namespace as ByNamespace, Schema as BySchema, Schemas as BySchemas}
use Rattle.apf_audit.specs.declared.choice.Choice.{Choice}
use Rattle.apf_audit.specs.declared.fault.AuditFault.{AuditFault}
use Rattle.apf_audit.specs.declared.fault.AuditFault.TheVariants.{TooLong, NotUtf8Json, NotEvent, BadUser, BadNamespace, BadReceived, BadStage, BadWait, BadRun, BadArrival, NoMemory, TooLate}
use Rattle.apf_explain.specs.declared.wanted.Wanted.TheVariants.{Name, Instant, Wait}
use Rattle.apf_explain.specs.TraceShown.{IsUnwantedIfThere}
use Rattle.apf_explain.specs.AuditShown.{IsUnwantedThere, IsEventShown, IsEventLineShown, IsAuditShown}
use Rattle.apf_explain.proofs.Steps.{stepped, none_there}
use Rattle.apf_explain.proofs.TraceFaults.{above, stepped_by}

-- ---- one event

-- the fault is of the line n, and is shown
abbrev IsEventAt : ℕ → Data → AuditFault → Type 0
IsEventAt n d fault = (line_of fault ≡ Some n) × IsEventShown d fault

at_step : {A : Type 0} (n : ℕ) (d : Data) (o : Option A) (f fault : AuditFault) → or_fault f o ≡ Err fault
    → (o ≡ None → IsEventAt n d f) → IsEventAt n d fault
at_step n d o f fault h shown =
    let no = none_there o f fault h in
    subst (λ (g : AuditFault). IsEventAt n d g) no.1 (shown no.0)

ok_there : {A F : Type 0} (f : F) (o : Option A) (x : A) → or_fault f o ≡ Ok x → o ≡ Some x
ok_there f None x h = absurd cc
ok_there f (Some y) x h = let same : y ≡ x = cc in ap Some same

no_event : (stage verb subresource : Option (List ℕ)) → taken_by stage verb subresource ≡ None → (stage ≡ None) ⊎ (verb ≡ None)
no_event None verb subresource h = inl refl
no_event (Some s) None subresource h = inr refl
no_event (Some s) (Some v) subresource h = absurd cc

instant_by : (key : List ℕ) (d : Data) (o : Option Data) → get key d ≡ o → instant_at key d ≡ None → IsUnwantedIfThere Instant o
unfolding instant_at text_at
instant_by key d None at h = tt
instant_by key d (Some v) at h = let none = rw at at h in rw (into (as_str v) none) refl
  where
    into : (o : Option (List ℕ)) → option_and_then instant_of o ≡ None → option_and_then instant_of o ≡ None
    into o e = e

name_at : (v : Option Data) → is_none v ≡ false → option_and_then (short max_name) (option_and_then as_str v) ≡ None → IsUnwantedThere (Name max_name) v
name_at None there h = absurd cc
name_at (Some v) there h = rw h refl

user_by : (d : Data) (o : Option Data) → is_none (name_found d o) ≡ false → option_and_then (short max_name) (name_by d o) ≡ None → IsUnwantedThere (Name max_name) (name_found d o)
unfolding text_within text_at
user_by d None there h = of_user (get (codes "user") d) there h
  where
    of_user : (o : Option Data) → is_none (option_and_then (get (codes "username")) o) ≡ false
        → option_and_then (short max_name) (option_and_then (λ (u : Data). option_and_then as_str (get (codes "username") u)) o) ≡ None
        → IsUnwantedThere (Name max_name) (option_and_then (get (codes "username")) o)
    of_user None there h = absurd cc
    of_user (Some u) there h = name_at (get (codes "username") u) there h
user_by d (Some i) there h = name_at (get (codes "username") i) there h

user_shown : (d : Data) → is_unnamed d ≡ false → user_of d ≡ None → IsUnwantedThere (Name max_name) (name_found d (get (codes "impersonatedUser") d))
unfolding user_of is_unnamed
user_shown d there h = user_by d (get (codes "impersonatedUser") d) there h

namespace_shown : (o : Option Data) → namespace_by o ≡ None → IsUnwantedThere (Name max_name) o
namespace_shown None h = absurd cc
namespace_shown (Some v) h = rw h refl

flow_shown : (by : Distinguisher) (user : List ℕ) (d : Data) → flow_of by user d ≡ None
    → IsUnwantedThere (Name max_name) (option_and_then (get (codes "namespace")) (get (codes "objectRef") d))
unfolding namespace_of
flow_shown User user d h = absurd cc
flow_shown Nothing user d h = absurd cc
flow_shown Namespace user d h = namespace_shown (option_and_then (get (codes "namespace")) (get (codes "objectRef") d)) h

none_mapped : {A B : Type 0} (f : A → B) (o : Option A) → option_map f o ≡ None → o ≡ None
none_mapped f None h = refl
none_mapped f (Some x) h = absurd cc

beside_shown : (by : By) (user : List ℕ) (d : Data) → beside_of by user d ≡ None
    → IsUnwantedThere (Name max_name) (option_and_then (get (codes "namespace")) (get (codes "objectRef") d))
beside_shown ByUser user d h = absurd cc
beside_shown ByNamespace user d h = absurd cc
beside_shown (BySchema cluster) user d h = absurd cc
beside_shown (BySchemas first second) user d h =
    let schemas = second.now.schemas.items in
    let place = place_among schemas user d in
    let way = within schemas place in
    flow_shown way user d
    (none_mapped (λ (flow : List ℕ). record { user = user; schema = place; flow = flow }) (flow_of way user d)
    (none_mapped (λ (said : BesideSaid). Some said) (said_by schemas user d) h))

wait_shown : (o : Option Data) → wait_by o ≡ None → IsUnwantedThere Wait o
wait_shown None h = absurd cc
wait_shown (Some v) h = rw h refl

wait_at_shown : (d : Data) → wait_at d ≡ None
    → IsUnwantedThere Wait (option_and_then (get (codes "apiserver.latency.k8s.io/apf-queue-wait")) (get (codes "annotations") d))
unfolding wait_at
wait_at_shown d h = wait_shown (option_and_then (get (codes "apiserver.latency.k8s.io/apf-queue-wait")) (get (codes "annotations") d)) h

run_by_shown : (b : Bool) (n received : ℕ) (d : Data) (fault : AuditFault) → instant_at (codes "requestReceivedTimestamp") d ≡ Some received
    → run_by b n received d ≡ Err fault → IsEventAt n d fault
run_by_shown true n received d fault from h = absurd cc
run_by_shown false n received d fault from h =
    stepped_by (or_fault (BadStage n) (instant_at (codes "stageTimestamp") d)) _ fault h
    (λ e. at_step n d (instant_at (codes "stageTimestamp") d) (BadStage n) fault e
    (λ no. (refl, instant_by (codes "stageTimestamp") d (get (codes "stageTimestamp") d) refl no))) (λ completed to h1.
    stepped_by (or_fault (BadWait n) (wait_at d)) _ fault h1
    (λ e. at_step n d (wait_at d) (BadWait n) fault e (λ no. (refl, wait_at_shown d no))) (λ wait waited h2.
    at_step n d (run_of received completed wait) (BadRun n) fault h2
    (λ no. (
      refl,
      record {
        received = received;
        completed = completed;
        wait = wait;
        from = from;
        to = ok_there (BadStage n) (instant_at (codes "stageTimestamp") d) completed to;
        waited = ok_there (BadWait n) (wait_at d) wait waited;
        no_run = no;
      },
    ))))

ran_shown : (n received : ℕ) (schema : Option ℕ) (flow : List ℕ) (beside : Option BesideSaid) (d : Data) (fault : AuditFault) → instant_at (codes "requestReceivedTimestamp") d ≡ Some received
    → ran_at n received schema flow beside d ≡ Err fault → IsEventAt n d fault
unfolding ran_at run_at
ran_shown n received schema flow beside d fault from h =
    stepped (run_by (was_turned_away d) n received d) _ fault h (λ e. run_by_shown (was_turned_away d) n received d fault from e) (λ _ h1. absurd cc)

chosen_shown : (b : Bool) (n received : ℕ) (schema : Option ℕ) (flow : List ℕ) (beside : Option BesideSaid) (d : Data) (fault : AuditFault) → instant_at (codes "requestReceivedTimestamp") d ≡ Some received
    → cond b (ran_at n received schema flow beside d >>= (λ e. Ok (Some e))) (Ok None) ≡ Err fault → IsEventAt n d fault
chosen_shown true n received schema flow beside d fault from h =
    stepped (ran_at n received schema flow beside d) _ fault h (λ e. ran_shown n received schema flow beside d fault from e) (λ _ h1. absurd cc)
chosen_shown false n received schema flow beside d fault from h = absurd cc

taken_shown : (choice : Choice) (n : ℕ) (d : Data) (fault : AuditFault) → is_unnamed d ≡ false → taken_of choice n d ≡ Err fault → IsEventAt n d fault
unfolding taken_of
taken_shown choice n d fault there h =
    stepped (or_fault (BadUser n) (user_of d)) _ fault h
    (λ e. at_step n d (user_of d) (BadUser n) fault e (λ no. (refl, user_shown d there no))) (λ user h1.
    let schema = schema_of choice.by user d in
    let by = distinguisher_by choice.by schema in
    stepped (or_fault (BadNamespace n) (flow_of by user d)) _ fault h1
    (λ e. at_step n d (flow_of by user d) (BadNamespace n) fault e (λ no. (refl, flow_shown by user d no))) (λ flow h2.
    stepped (or_fault (BadNamespace n) (beside_of choice.by user d)) _ fault h2
    (λ e. at_step n d (beside_of choice.by user d) (BadNamespace n) fault e (λ no. (refl, beside_shown choice.by user d no))) (λ beside h3.
    stepped_by (or_fault (BadReceived n) (instant_at (codes "requestReceivedTimestamp") d)) _ fault h3
    (λ e. at_step n d (instant_at (codes "requestReceivedTimestamp") d) (BadReceived n) fault e
    (λ no. (refl, instant_by (codes "requestReceivedTimestamp") d (get (codes "requestReceivedTimestamp") d) refl no))) (λ received from h4.
    chosen_shown (is_chosen choice user received) n received schema flow beside d fault (ok_there (BadReceived n) (instant_at (codes "requestReceivedTimestamp") d) received from) h4))))

event_shown : (choice : Choice) (n : ℕ) (d : Data) (fault : AuditFault) → event_of choice n d ≡ Err fault → IsEventAt n d fault
unfolding event_of is_taken
event_shown choice n d fault h = go (taken_by (text_at (codes "stage") d) (text_at (codes "verb") d) (text_within (codes "objectRef") (codes "subresource") d)) refl h
  where
    named : (b : Bool) → is_unnamed d ≡ b → cond b (Ok None) (taken_of choice n d) ≡ Err fault → IsEventAt n d fault
    named true is h = absurd cc
    named false is h = taken_shown choice n d fault is h

    go : (o : Option Bool) → taken_by (text_at (codes "stage") d) (text_at (codes "verb") d) (text_within (codes "objectRef") (codes "subresource") d) ≡ o
        → event_by choice n d o ≡ Err fault → IsEventAt n d fault
    go None is h =
        let same : NotEvent n ≡ fault = cc in
        subst (λ (g : AuditFault). IsEventAt n d g) same (refl, no_event _ _ _ is)
    go (Some false) is h = absurd cc
    go (Some true) is h = named (is_unnamed d) refl h

-- ---- one line

of_value : (n : ℕ) (line : Line) (d : Data) (fault : AuditFault) → value_of line.bytes ≡ Some d → IsEventAt n d fault → IsAuditShown n line fault
of_value n line d (NotEvent m) is h = (h.0, (d, is, h.1))
of_value n line d (BadUser m) is h = (h.0, (d, is, h.1))
of_value n line d (BadNamespace m) is h = (h.0, (d, is, h.1))
of_value n line d (BadReceived m) is h = (h.0, (d, is, h.1))
of_value n line d (BadStage m) is h = (h.0, (d, is, h.1))
of_value n line d (BadWait m) is h = (h.0, (d, is, h.1))
of_value n line d (BadRun m) is h = (h.0, (d, is, h.1))
of_value n line d (TooLong m) is h = absurd h.1
of_value n line d (NotUtf8Json m) is h = absurd h.1
of_value n line d (BadArrival m after) is h = absurd h.1
of_value n line d NoMemory is h = absurd h.1
of_value n line d (TooLate m) is h = absurd h.1

judged_shown : (choice : Choice) (n : ℕ) (line : Line) (cut : Bool) (o : Option Data) (fault : AuditFault) → is_unfinished line ≡ cut
    → value_of line.bytes ≡ o → judged_by choice n cut o ≡ Err fault → IsAuditShown n line fault
judged_shown choice n line cut (Some d) fault unfinished is h = of_value n line d fault is (event_shown choice n d fault h)
judged_shown choice n line false None fault unfinished is h =
    let same : NotUtf8Json n ≡ fault = cc in
    subst (λ (g : AuditFault). IsAuditShown n line g) same (refl, (is, unfinished))
judged_shown choice n line true None fault unfinished is h = absurd cc

pub line_shown : (choice : Choice) (n : ℕ) (line : Line) (fault : AuditFault) → judged_line choice n line ≡ Err fault → IsAuditShown n line fault
unfolding judged_line
line_shown choice n line fault h = go (nat_le (length line.bytes) max_line) refl h
  where
    go : (b : Bool) → nat_le (length line.bytes) max_line ≡ b → cond b (judged_by choice n (is_unfinished line) (value_of line.bytes)) (Err (TooLong n)) ≡ Err fault
        → IsAuditShown n line fault
    go true short h = judged_shown choice n line (is_unfinished line) (value_of line.bytes) fault refl refl h
    go false long h =
        let same : TooLong n ≡ fault = cc in
        subst (λ (g : AuditFault). IsAuditShown n line g) same (refl, above (length line.bytes) max_line long)
