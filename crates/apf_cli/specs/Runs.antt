-- What `run` prints.
use Rattle.std.specs.Prelude.{◌≡◌, ℕ, ◌<◌, List, length, Option, Ok}
use Rattle.std.specs.Io.KnownBytes.{Appends}
use Rattle.clap.specs.Words.{Text}
use Rattle.apf_model.specs.declared.config.Config.{Config}
use Rattle.apf_files.specs.ConfigFile.{IsConfigOf}
use Rattle.apf_files.specs.RequestsFile.{AreRequestsOf}
use Rattle.apf_files.specs.declared.requests.Request.{Request}
use Rattle.apf_level.specs.declared.report.Report.{Report}
use Rattle.apf_line.specs.declared.report.Report.{Report as LifeReport}
use Rattle.apf_run.specs.RoundsBooks.{book_of as rounds_book_of}
use Rattle.apf_run.specs.RoundsFaults.{CanRunRounds}
use Rattle.apf_run.specs.RoundsRuns.{HasRunRounds}
use Rattle.apf_commands.specs.Meaning.{IsActionOf}
use Rattle.apf_commands.specs.declared.words.Action.{Action}
use Rattle.apf_commands.specs.declared.words.Arguments.{Arguments}
use Rattle.apf_commands.specs.declared.words.Arguments.TheVariants.{Workers}
use Rattle.apf_run.specs.Books.{book_of}
use Rattle.apf_run.specs.Faults.{CanRun}
use Rattle.apf_run.specs.Runs.{HasRun}
use Rattle.apf_texts.specs.Texts.{totals_text}

-- the config and the requests of the files of these names, by what each file may hold
pub record AreRead (holds : (name bytes : List ℕ) → Type 0) (config_name requests_name : List ℕ) (config : Config) (requests : List Request) : Type 0 where
  pub config_bytes : List ℕ
  pub requests_bytes : List ℕ
  pub config_held : holds config_name config_bytes
  pub requests_held : holds requests_name requests_bytes
  pub config_is : IsConfigOf config_bytes (Ok config)
  pub requests_are : AreRequestsOf requests_bytes (Ok requests)

-- a run of all these requests on such a level, by this many workers, reports this
pub record IsRunOf (holds : (name bytes : List ℕ) → Type 0) (config_name requests_name : List ℕ) (workers : ℕ) (report : Report) : Type 0 where
  pub config : Config
  pub requests : List Request
  pub read : AreRead holds config_name requests_name config requests
  pub settings : CanRun config requests workers
  pub told : HasRun config requests report

-- the book of such a report was written
pub record PrintsRun (holds : (name bytes : List ℕ) → Type 0) (config_name requests_name : List ℕ) (workers : ℕ) (before after : Option (List ℕ)) : Type 0 where
  pub report : Report
  pub run : IsRunOf holds config_name requests_name workers report
  pub written : Appends before after (totals_text (book_of report))

-- a run of all these requests at a level for life of such settings, by this many workers in this many rounds, reports this
pub record IsRunInRounds (holds : (name bytes : List ℕ) → Type 0) (config_name requests_name : List ℕ) (workers rounds : ℕ) (report : LifeReport) : Type 0 where
  pub config : Config
  pub requests : List Request
  pub read : AreRead holds config_name requests_name config requests
  pub settings : CanRunRounds config (length requests) workers
  pub told : HasRunRounds config requests rounds report

-- the book of such a report was written
pub record PrintsRounds (holds : (name bytes : List ℕ) → Type 0) (config_name requests_name : List ℕ) (workers rounds : ℕ) (before after : Option (List ℕ)) : Type 0 where
  pub report : LifeReport
  pub run : IsRunInRounds holds config_name requests_name workers rounds report
  pub written : Appends before after (totals_text (rounds_book_of report))

-- the book of a run was written: of a batch in one round, and of a level for life in more
pub record PrintsBook (holds : (name bytes : List ℕ) → Type 0) (config_name requests_name : List ℕ) (workers rounds : ℕ) (before after : Option (List ℕ)) : Type 0 where
  pub one : rounds ≡ 1 → PrintsRun holds config_name requests_name workers before after
  pub more : 1 < rounds → PrintsRounds holds config_name requests_name workers rounds before after

-- what is stated of what a command with these arguments prints
abbrev pub PrintsOf : (holds : (name bytes : List ℕ) → Type 0) → Arguments → (before after : Option (List ℕ)) → Type 0
PrintsOf holds (Workers config requests workers rounds) before after = PrintsBook holds config.now requests.now workers rounds before after
PrintsOf holds _ before after = Unit {0}

-- what is stated of what a command prints
abbrev pub PrintsFor : (holds : (name bytes : List ℕ) → Type 0) → Action → (before after : Option (List ℕ)) → Type 0
PrintsFor holds action before after = PrintsOf holds action.arguments before after

-- the words ask for a command, and what it prints was written
abbrev pub Performs : (holds : (name bytes : List ℕ) → Type 0) → List Text → (before after : Option (List ℕ)) → Type 0
Performs holds words before after = (action : Action) × (IsActionOf words action × PrintsFor holds action before after)
