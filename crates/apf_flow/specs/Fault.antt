-- Why the sizes of a dealer are refused.
use Rattle.std.specs.Prelude.{ℕ, ◌^◌, List, Option, Some, None, nat_lt, nat_eq, if◌then◌else◌, ◌||◌, codes}
use Rattle.apf_flow.specs.declared.fault.DealerFault.{DealerFault}
use Rattle.apf_flow.specs.declared.fault.DealerFault.TheVariants.{NotPositive, HandTooLarge, DeckTooLarge, TooMuchEntropy}

-- the first fault of a deck and a hand, if there is one
abbrev pub fault_of : ℕ → ℕ → Option DealerFault
fault_of deck hand =
    if nat_eq deck 0 || nat_eq hand 0 then Some NotPositive
    else (if nat_lt deck hand then Some HandTooLarge
    else (if nat_lt (2 ^ 26) deck then Some DeckTooLarge
    else (if nat_lt (2 ^ 60) (deck ^ hand) then Some TooMuchEntropy
    else None)))

-- the number of a fault
abbrev pub dealer_fault_number : DealerFault → ℕ
dealer_fault_number NotPositive = 1
dealer_fault_number HandTooLarge = 2
dealer_fault_number DeckTooLarge = 3
dealer_fault_number TooMuchEntropy = 4

-- the text of a fault
abbrev pub text_of : DealerFault → List ℕ
text_of NotPositive = codes "not positive"
text_of HandTooLarge = codes "hand too large"
text_of DeckTooLarge = codes "deck too large"
text_of TooMuchEntropy = codes "too much entropy"
