-- What `serve` does with its whole input.
use Rattle.std.specs.Prelude.{◌≡◌, ℕ, ◌+◌, List, [], ◌∷◌, ◌++◌, length, map, replicate, codes, Option, Some, None, Result, MatchResult}
use Rattle.std.specs.List.{flat_map}
use Rattle.std.specs.Io.KnownBytes.{Keeps, Appends, Consumes, IsAtEnd}
use Rattle.apf_charges.specs.declared.charges.ChargedBy.{ChargedBy}
use Rattle.apf_charges.specs.Charging.{opening_charges}
use Rattle.apf_explain.specs.declared.place.Part.TheVariants.{Sent}
use Rattle.apf_explain.specs.Lines.{place_text}
use Rattle.apf_lines.specs.Lines.{HasNoLf, AreLines}
use Rattle.apf_local.specs.Openings.{IsOpened}
use Rattle.apf_model.specs.declared.config.Config.{Config}
use Rattle.apf_protocol.specs.declared.fault.FaultKind.TheVariants.{Truncated}
use Rattle.apf_protocol.specs.Faults.{kind_text}
use Rattle.apf_protocol.specs.Texts.{first_text}
use Rattle.apf_service.specs.declared.serving.ServeFault.{ServeFault}
use Rattle.apf_service.specs.declared.serving.ServeFault.TheVariants.{Open, CannotRead, CannotWrite, NoMemory}
use Rattle.apf_service.specs.Tallies.{no_tally}
use Rattle.apf_service.specs.Kept.{State, told, none_given, none_asked, queues_of, settling_by}
use Rattle.apf_service.specs.Lines.{Serves, TellsBook}

-- what a level is served with: its name, its settings, how many slots it has, and how its requests are charged
pub record Setup : Type 0 where
  pub name : List ℕ
  pub config : Config
  pub slots : ℕ
  pub by : ChargedBy

-- a level that was just opened so: nobody came yet
pub record IsBegun (setup : Setup) (s : State) : Type 0 where
  pub opened : IsOpened setup.config setup.slots (settling_by setup.by) s.level
  pub tally : s.tally ≡ no_tally
  pub queues : s.queues ≡ none_given (queues_of setup.config)
  pub seen : s.seen ≡ 0
  pub charges : s.charges ≡ opening_charges setup.by
  pub asked : s.asked ≡ replicate setup.slots none_asked

-- a level of this name took the line of this number, and this is its answer, where its text is stated. Numbers go as far as 64 bits can tell them
abbrev pub Answers : (name : List ℕ) → (number : ℕ) → (line : List ℕ) → (answer : Option (List ℕ)) → State → State → Type 0
Answers name number line answer old new = Serves name (told number) line old (λ text. answer ≡ Some text) new

-- a level of this name went from line to line, of which the first has this number, and these are its answers, one for each
abbrev pub AnswersAll : (name : List ℕ) → (number : ℕ) → (lines : List (List ℕ)) → (answers : List (Option (List ℕ))) → State → State → Type 0
AnswersAll name number [] [] old new = new ≡ old
AnswersAll name number [] (answer ∷ answers) old new = ⊥
AnswersAll name number (line ∷ lines) [] old new = ⊥
AnswersAll name number (line ∷ lines) (answer ∷ answers) old new = (next : State) × Answers name number line answer old next × AnswersAll name (number + 1) lines answers next new

-- these texts were written one behind the other. Of one that is not stated nothing is known, nor of what stands before it
abbrev pub WritesAll : List (Option (List ℕ)) → Option (List ℕ) → Option (List ℕ) → Type 0
WritesAll [] held holds = Keeps held holds
WritesAll (None ∷ texts) held holds = (next : Option (List ℕ)) × WritesAll texts next holds
WritesAll (Some text ∷ texts) held holds = (next : Option (List ℕ)) × Appends held next text × WritesAll texts next holds

-- where each of these texts is stated, what was written is all of them, one behind the other
abbrev pub IsEveryTextWritten : Type 0
IsEveryTextWritten = (texts : List (List ℕ)) (held holds : Option (List ℕ)) → WritesAll (map (λ text. Some text) texts) held holds → Appends held holds (flat_map (λ text. text) texts)

-- bytes behind the last LF are told as the fault of the line of this number
abbrev pub rest_text : ℕ → List ℕ → List ℕ
rest_text number [] = []
rest_text number (b ∷ bytes) = place_text (codes "fault") (Sent number) ++ (kind_text Truncated ++ codes "\n")

-- these bytes are these lines and a rest without LF, and a level that was opened so gave these answers to the lines
pub record IsAnswered (setup : Setup) (input : List ℕ) (lines : List (List ℕ)) (rest : List ℕ) (answers : List (Option (List ℕ))) (last : State) : Type 0 where
  pub begun : State
  pub opening : IsBegun setup begun
  pub joined : AreLines input lines rest
  pub whole : HasNoLf rest
  pub answered : AnswersAll setup.name 1 lines answers begun last

-- the first line, and the answers behind it
abbrev pub first_texts : Setup → List (Option (List ℕ)) → List (Option (List ℕ))
first_texts setup answers = Some (first_text (record { slots = setup.slots; config = setup.config })) ∷ answers

-- the reader gave its whole input, of which each line was answered; behind the answers a rest was told, and the book of the level as it was then
pub record ServesAll (setup : Setup) (was left held holds : Option (List ℕ)) : Type 0 where
  pub input : List ℕ
  pub given : Consumes was left input
  pub ended : IsAtEnd left
  pub lines : List (List ℕ)
  pub rest : List ℕ
  pub answers : List (Option (List ℕ))
  pub served : State
  pub are : IsAnswered setup input lines rest answers served
  pub last : State
  pub book : List ℕ
  pub tells : TellsBook served (λ text. text ≡ book) last
  pub written : WritesAll (first_texts setup answers ++ (Some (rest_text (told (length lines + 1)) rest) ∷ Some book ∷ [])) held holds

-- the reader gave these bytes, of which each line was answered, and all answers to these were written
pub record ServesPart (setup : Setup) (was left held holds : Option (List ℕ)) : Type 0 where
  pub input : List ℕ
  pub given : Consumes was left input
  pub lines : List (List ℕ)
  pub rest : List ℕ
  pub answers : List (Option (List ℕ))
  pub served : State
  pub are : IsAnswered setup input lines rest answers served
  pub written : WritesAll (first_texts setup answers) held holds

-- some bytes were read of what a reader has
abbrev pub IsRead : (was left : Option (List ℕ)) → Type 0
IsRead was left = (input : List ℕ) × Consumes was left input

-- what was read and written before a fault: nothing, if the level was not opened; if the input was not read, all that came before; if an answer was not written, a beginning of the input was read
abbrev pub ServesUntil : Setup → (was left held holds : Option (List ℕ)) → ServeFault → Type 0
ServesUntil setup was left held holds NoMemory = (left ≡ was) × (holds ≡ held)
ServesUntil setup was left held holds (Open fault) = (left ≡ was) × (holds ≡ held)
ServesUntil setup was left held holds CannotRead = ServesPart setup was left held holds
ServesUntil setup was left held holds CannotWrite = IsRead was left

-- what was read and written, by what the call answered
abbrev pub IsServed : {T : Type 0} → Setup → (was left held holds : Option (List ℕ)) → Result T ServeFault → Type 0
IsServed setup was left held holds result = MatchResult result (λ _. ServesAll setup was left held holds) (ServesUntil setup was left held holds)
