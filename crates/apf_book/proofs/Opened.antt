-- The laws of histories, opened.
use Rattle.apf_book.specs.Histories.{Laws, LegalLaws, Balanced, FairLaw, Isolated, IsolationLaw, Waits, WaitLaws, Stands, StandingLaw, Unsettled, UnsettledLaw}

pub opened : LegalLaws → Laws
unfolding LegalLaws
opened laws = laws

pub balanced : FairLaw → Balanced
unfolding FairLaw
balanced law = law

pub isolated : IsolationLaw → Isolated
unfolding IsolationLaw
isolated law = law

pub waits : WaitLaws → Waits
unfolding WaitLaws
waits laws = laws

pub stands : StandingLaw → Stands
unfolding StandingLaw
stands law = law

pub unsettled : UnsettledLaw → Unsettled
unfolding UnsettledLaw
unsettled law = law
