-- What a line is answered, as far as it is stated.
use Rattle.std.proofs.Common.{◌≡◌, ◌<◌, ℕ, List, [], ◌∷◌, ◌++◌, Bool, false, length, codes, Option, None, Some, IfSome, Result, Ok, Err, OnOk, refl, ap, inl, inr, arith}
use Rattle.std.specs.Prelude.{nat_le, if◌then◌else◌}
use Rattle.std.specs.List.{flat_map}
use Rattle.std.specs.Io.KnownBytes.{Appends}
use Rattle.std.proofs.lemmas.Bool.Decides.{nat_tests}
use Rattle.apf_explain.specs.declared.place.Part.TheVariants.{Sent}
use Rattle.apf_explain.specs.Lines.{place_text}
use Rattle.apf_files.specs.FirstFault.{◌>>=◌}
use Rattle.apf_protocol.specs.declared.answer.Answer.TheVariants.{End}
use Rattle.apf_protocol.specs.declared.command.Command.{Command}
use Rattle.apf_protocol.specs.declared.command.Command.TheVariants as commands
use Rattle.apf_protocol.specs.declared.fault.FaultKind.TheVariants.{TooLong, Truncated}
use Rattle.apf_protocol.specs.declared.fault.Found.TheVariants.{Nothing}
use Rattle.apf_protocol.specs.Faults.{kind_text, fault_text}
use Rattle.apf_protocol.specs.Lines.{form_of, form_from, cut_of}
use Rattle.apf_protocol.specs.Texts.{answer_text}
use Rattle.apf_texts.specs.Texts.{totals_text}
use Rattle.apf_traces.specs.TraceFile.{max_bytes}
use Rattle.apf_service.specs.Kept.{State}
use Rattle.apf_service.specs.Lines.{Serves, Obeys, Changes, WritesIfOk, words_in, judged, given_text, book_of}
use Rattle.apf_service.specs.Metrics.{metrics_text}
use Rattle.apf_service.specs.Replies.{reply_text, moves_text}
use Rattle.apf_service.specs.Serving.{rest_text}
use Rattle.apf_service.proofs.Faults.{fault_of_words}

-- the command was carried out and answered by one text, which was written
pub record ObeysBy (name : List ℕ) (number : ℕ) (command : Command) (old new : State) (W : List ℕ → Type 0) : Type 0 where
  pub text : List ℕ
  pub obeys : Obeys name number command old (λ other. Some text ≡ Some other) new
  pub writes : W text

-- so by a change
pub record ChangesBy (number : ℕ) (command : Command) (old new : State) (W : List ℕ → Type 0) : Type 0 where
  pub text : List ℕ
  pub changes : Changes number command old (λ other. Some text ≡ Some other) new
  pub writes : W text

changed_by : (number : ℕ) (command : Command) (old new : State) (W : List ℕ → Type 0) → Changes number command old W new → ChangesBy number command old new W
changed_by number command old new W c = record {
  text = reply_text number c.reply ++ moves_text c.tells.log;
  changes = record {
    reply = c.reply;
    between = c.between;
    turns = c.turns;
    tells = record { log = c.tells.log; next = c.tells.next; events = c.tells.events; follows = c.tells.follows; told = refl };
  };
  writes = c.tells.told;
}

by_change : (name : List ℕ) (number : ℕ) (command : Command) (old new : State) (W : List ℕ → Type 0) → ((V : List ℕ → Type 0) → Changes number command old V new → Obeys name number command old V new) → Changes number command old W new → ObeysBy name number command old new W
by_change name number command old new W obeys c =
    let by : ChangesBy number command old new W = changed_by number command old new W c in
    record { text = by.text; obeys = obeys (λ other. Some by.text ≡ Some other) by.changes; writes = by.writes }

obeyed_by : (name : List ℕ) (number : ℕ) (command : Command) (old new : State) (W : List ℕ → Type 0) → Obeys name number command old W new → ObeysBy name number command old new W
obeyed_by name number commands.Book old new W b = record {
  text = totals_text (book_of b.word old.tally b.stats);
  obeys = record { word = b.word; stats = b.stats; does = b.does; stats_are = b.stats_are; told = refl };
  writes = b.told;
}
obeyed_by name number commands.Queues old new W q = record {
  text = flat_map given_text old.queues ++ answer_text End;
  obeys = record { told = refl; same = q.same };
  writes = q.told;
}
obeyed_by name number commands.Metrics old new W m = record {
  text = metrics_text name m.word.limit old.tally;
  obeys = record { word = m.word; does = m.does; told = refl };
  writes = m.told;
}
obeyed_by name number (commands.Arrive n a) old new W c = by_change name number (commands.Arrive n a) old new W (λ V x. x) c
obeyed_by name number (commands.Try n a) old new W c = by_change name number (commands.Try n a) old new W (λ V x. x) c
obeyed_by name number (commands.Finish n ran) old new W c = by_change name number (commands.Finish n ran) old new W (λ V x. x) c
obeyed_by name number (commands.Spent n micros) old new W c = by_change name number (commands.Spent n micros) old new W (λ V x. x) c
obeyed_by name number (commands.Cancel n) old new W c = by_change name number (commands.Cancel n) old new W (λ V x. x) c
obeyed_by name number (commands.Limit limit) old new W c = by_change name number (commands.Limit limit) old new W (λ V x. x) c
obeyed_by name number commands.Close old new W c = by_change name number commands.Close old new W (λ V x. x) c

-- what a line is answered, as far as it is stated: this was written
pub record IsStated (name : List ℕ) (number : ℕ) (line : List ℕ) (old new : State) (W : List ℕ → Type 0) : Type 0 where
  pub answer : Option (List ℕ)
  pub serves : Serves name number line old (λ text. answer ≡ Some text) new
  pub writes : IfSome answer W

states_itself : (stated : Option (List ℕ)) → IfSome stated (λ text. stated ≡ Some text)
states_itself None = tt
states_itself (Some text) = refl

pub stated : (name : List ℕ) (number : ℕ) (line : List ℕ) (old new : State) (W : List ℕ → Type 0) → Serves name number line old W new → IsStated name number line old new W
stated name number line old new W (inl r) = record {
  answer = fault_text number r.kind r.found;
  serves = inl (record { kind = r.kind; found = r.found; is = r.is; told = states_itself (fault_text number r.kind r.found); same = r.same });
  writes = r.told;
}
stated name number line old new W (inr c) =
    let by : ObeysBy name number c.command old new W = obeyed_by name number c.command old new W c.obeys in
    record {
      answer = Some by.text;
      serves = inr (record { command = c.command; commands = c.commands; obeys = by.obeys });
      writes = by.writes;
    }

-- where the line was answered
pub served_on : {T E : Type 0} (done : Result T E) (name : List ℕ) (number : ℕ) (line : List ℕ) (old new : State) (a b : Option (List ℕ)) → Serves name number line old (WritesIfOk done a b) new → OnOk done (Serves name number line old (Appends a b) new)
served_on (Ok x) name number line old new a b is = is
served_on (Err e) name number line old new a b is = tt

-- ---- a line that is too long

-- what it is answered
abbrev pub long_text : ℕ → List ℕ
long_text number = place_text (codes "fault") (Sent number) ++ (kind_text TooLong ++ codes "\n")

long_words : (s : State) (line : List ℕ) → max_bytes < length line → words_in s line ≡ Err TooLong
unfolding words_in form_of
long_words s line long =
    let more : nat_le (length line) max_bytes ≡ false = grind (arith, nat_tests) in
    ap (λ (b : Bool). (if b then form_from (length s.level.places) line (cut_of line) else Err TooLong) >>= judged s) more

pub too_long : (name : List ℕ) (number : ℕ) (line : List ℕ) (s : State) (W : List ℕ → Type 0) → max_bytes < length line → W (long_text number) → Serves name number line s W s
too_long name number line s W long told = inl (record {
  kind = TooLong;
  found = Nothing;
  is = fault_of_words s line TooLong TooLong Nothing (long_words s line long) refl refl;
  told = told;
  same = refl;
})

-- ---- bytes without LF

-- what they are told as
abbrev pub cut_text : ℕ → List ℕ
cut_text number = place_text (codes "fault") (Sent number) ++ (kind_text Truncated ++ codes "\n")

pub some_rest : (number : ℕ) (rest : List ℕ) (a b : Option (List ℕ)) → 0 < length rest → Appends a b (cut_text number) → Appends a b (rest_text number rest)
some_rest number [] a b some told = absurd (omega (arith, some))
some_rest number (x ∷ rest) a b some told = told
