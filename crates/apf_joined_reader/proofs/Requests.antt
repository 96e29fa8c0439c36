-- One request more, of both logs.
use Rattle.std.proofs.Common.{◌≡◌, ℕ, List, [], ◌∷◌, ◌++◌, Option, Some, None, Ok, Err, sym, ap, ◌∙◌, subst}
use Rattle.std.proofs.KnownBytes.{Consumes-nil}
use Rattle.std.proofs.lemmas.List.{map_push}
use Rattle.apf_request_halves.specs.Reading as lines
use Rattle.apf_audit.specs.AuditEvent.{Event, event}
use Rattle.apf_audit.specs.declared.choice.Choice.{Choice}
use Rattle.apf_audit.specs.declared.event.Taken.{Taken}
use Rattle.apf_audit_reader.specs.Reading as log
use Rattle.apf_audit_reader.specs.Views.{ReaderView}
use Rattle.apf_audit_reader.specs.declared.fault.ReadFault.{ReadFault}
use Rattle.apf_joined_reader.specs.Counts.{counts_of, counts_then, name_by, no_counts}
use Rattle.apf_joined_reader.specs.Joins.{Join, events_of, line_by}
use Rattle.apf_joined_reader.specs.Looking.{TakesMore, join_of}
use Rattle.apf_joined_reader.specs.Reading.{AnswersMore, AreAsked, JoinedView, inputs}
use Rattle.apf_joined_reader.specs.declared.fault.JoinFault.{JoinFault}
use Rattle.apf_joined_reader.specs.declared.fault.JoinFault.TheVariants.{Read, Lines, NoMemory}
use Rattle.apf_joined_reader.proofs.Lines.{counts_push, still_asked}

module _ (choice : Choice) (log_was log_left : Option (List ℕ)) (old : JoinedView) where
  -- the audit log was not read
  pub read_failed : (lines_was : Option (List ℕ)) (fault : ReadFault) (new : JoinedView) → log.AnswersEach choice log_was log_left old.reader (Err fault) new.reader
      → AnswersMore choice (inputs log_was lines_was) (inputs log_left lines_was) old (Err (Read fault)) new
  read_failed lines_was fault new answers log_bytes line_bytes joins h =
      let a = answers log_bytes (events_of joins) h.read in
      (a.0, [], record { log = a.1; lines = Consumes-nil lines_was }, a.2)

  -- all of it was handed out
  pub all_read : (lines_was : Option (List ℕ)) (new : JoinedView) → new.halves ≡ old.halves → new.counts ≡ old.counts → log.AnswersEach choice log_was log_left old.reader (Ok None) new.reader
      → AnswersMore choice (inputs log_was lines_was) (inputs log_left lines_was) old (Ok None) new
  all_read lines_was new halves counts answers log_bytes line_bytes joins h =
      let a = answers log_bytes (events_of joins) h.read in
      let asked = subst (λ (v : Option lines.HalvesView). AreAsked v (line_bytes ++ []) joins lines_was) (sym halves) (still_asked old.halves line_bytes joins lines_was h.asked) in (
        a.0,
        [],
        record { log = a.1; lines = Consumes-nil lines_was },
        (record { read = a.2.0; asked = asked; counts = counts ∙ h.counts }, a.2.1, a.2.2),
      )

  -- a request was handed out
  module _ (lines_was lines_left : Option (List ℕ)) (mid new : JoinedView) (taken : Taken) (halves : mid.halves ≡ old.halves) (counts : mid.counts ≡ old.counts) (same : new.reader ≡ mid.reader)
      (answers : log.AnswersEach choice log_was log_left old.reader (Ok (Some taken)) mid.reader) where
    asked_then : (bytes : List ℕ) (joins : List Join) → AreAsked old.halves bytes joins lines_was → AreAsked mid.halves bytes joins lines_was
    asked_then bytes joins asked = subst (λ (v : Option lines.HalvesView). AreAsked v bytes joins lines_was) (sym halves) asked

    -- it was joined with its line
    pub joined_too : (x : Taken) → TakesMore choice.by (event taken) lines_was lines_left mid (Ok x) new
        → AnswersMore choice (inputs log_was lines_was) (inputs log_left lines_left) old (Ok (Some x)) new
    joined_too x takes log_bytes line_bytes joins h =
        let e = event taken in
        let a = answers log_bytes (events_of joins) h.read in
        let t = takes line_bytes joins (asked_then line_bytes joins h.asked) in
        let j = join_of e t.2.0 in
        let events : events_of (joins ++ j ∷ []) ≡ events_of joins ++ e ∷ [] = map_push (λ (k : Join). k.event) joins j in
        let counted : new.counts ≡ counts_of choice.by (joins ++ j ∷ []) =
        t.2.3 ∙ (ap (counts_then (name_by choice.by e.schema) e (line_by t.2.0)) (counts ∙ h.counts) ∙ sym (counts_push choice.by no_counts joins j)) in (
          a.0,
          t.0,
          record { log = a.1; lines = t.1 },
          record {
            join = j;
            is = t.2.1;
            read = record {
              read = subst (λ (r : ReaderView). log.HasRead choice (log_bytes ++ a.0) (events_of (joins ++ j ∷ [])) log_left r) (sym same)
                  (subst (λ (l : List Event). log.HasRead choice (log_bytes ++ a.0) l log_left mid.reader) (sym events) a.2);
              asked = t.2.2;
              counts = counted;
            };
          },
        )

    -- its line was not read
    pub join_failed : (fault : JoinFault) → TakesMore choice.by (event taken) lines_was lines_left mid (Err fault) new
        → AnswersMore choice (inputs log_was lines_was) (inputs log_left lines_left) old (Err fault) new
    join_failed (Lines fault) takes log_bytes line_bytes joins h =
        let a = answers log_bytes (events_of joins) h.read in
        let t = takes line_bytes joins (asked_then line_bytes joins h.asked) in (
          a.0,
          t.0,
          record { log = a.1; lines = t.1 },
          record {
            event = event taken;
            read = subst (λ (r : ReaderView). log.HasRead choice (log_bytes ++ a.0) (events_of joins ++ event taken ∷ []) log_left r) (sym same) a.2;
            view = t.2.0;
            is = t.2.1;
            stops = t.2.2;
          },
        )
    join_failed NoMemory takes log_bytes line_bytes joins h =
        let a = answers log_bytes (events_of joins) h.read in
        let t = takes line_bytes joins (asked_then line_bytes joins h.asked) in
        (a.0, t.0, record { log = a.1; lines = t.1 }, tt)
    join_failed (Read fault) takes log_bytes line_bytes joins h = absurd (takes line_bytes joins (asked_then line_bytes joins h.asked)).2
