-- What is kept of the requests that execute.
use Rattle.std.specs.Prelude.{◌≡◌, ℕ, ◌+◌, ◌-◌, ◌≤◌, min, max, List, slice_index}
use Rattle.apf_history.specs.declared.events.LogEntry.{LogEntry}
use Rattle.apf_history.specs.Charged.{charged, taken}
use Rattle.apf_bound.specs.Stretched.{largest}
use Rattle.apf_bound.specs.Bounds.{IsLeastSlack}

-- what is stored
pub record JudgedView : Type 0 where
  pub taken : List ℕ
  pub charged : List ℕ
  pub slack : ℕ

-- by so much is one of these more than the other at the same place, and none is by more
pub record IsGap (more less : List ℕ) (gap : ℕ) : Type 0 where
  pub place : ℕ
  pub at : slice_index more place - slice_index less place ≡ gap
  pub most : (q : ℕ) → slice_index more q ≤ slice_index less q + gap

-- the slack is raised to both gaps, if they are more
pub record IsRaisedTo (taken charged : List ℕ) (before slack : ℕ) : Type 0 where
  pub under : ℕ
  pub over : ℕ
  pub under_is : IsGap taken charged under
  pub over_is : IsGap charged taken over
  pub slack_is : slack ≡ max (min (under + over) largest) before

-- it is that of this log
pub record IsJudgedOf (costs : List ℕ) (measure : ℕ → ℕ) (l : List LogEntry) (j : JudgedView) : Type 0 where
  pub taken : (q : ℕ) → slice_index j.taken q ≡ taken costs measure l q
  pub charged : (q : ℕ) → slice_index j.charged q ≡ charged costs l q
  pub slack : IsLeastSlack costs measure l j.slack
