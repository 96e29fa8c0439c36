-- What is wrong with a line, step by step.
use Rattle.std.proofs.Common.{◌≡◌, ◌≢◌, ℕ, List, sym, ap, ◌∙◌, subst}
use Rattle.std.proofs.Common.{Result, Ok, Err, IfErr}
use Rattle.apf_files.specs.FirstFault.{◌>>=◌}
use Rattle.apf_protocol.specs.declared.command.Command.{Command}
use Rattle.apf_protocol.specs.declared.fault.FaultKind.{FaultKind}
use Rattle.apf_protocol.specs.declared.fault.FaultKind.TheVariants.{NoMemory}
use Rattle.apf_protocol.specs.declared.fault.Found.{Found}
use Rattle.apf_protocol.specs.declared.fault.LineFault.{LineFault}
use Rattle.apf_protocol.specs.declared.fault.Found.TheVariants.{Nothing}
use Rattle.apf_protocol.specs.Lines.{Words}
use Rattle.apf_protocol.specs.Commands.{command_from, HasObject}
use Rattle.apf_protocol.specs.Faults.{IsFoundIn}
use Rattle.apf_service.specs.Kept.{State}
use Rattle.apf_service.specs.Lines.{words_in, command_in, IsFaultOf, IsFoundFor, CanLackMemory}

pub command_by : (s : State) (line : List ℕ) (w : Words) (c : Result Command FaultKind) → words_in s line ≡ Ok w → command_from w.head w.object ≡ c → command_in s line ≡ c
unfolding command_in
command_by s line w c words is = ap (λ (r : Result Words FaultKind). r >>= (λ v. command_from v.head v.object)) words ∙ is

no_command : (s : State) (line : List ℕ) (kind : FaultKind) → words_in s line ≡ Err kind → command_in s line ≡ Err kind
unfolding command_in
no_command s line kind words = ap (λ (r : Result Words FaultKind). r >>= (λ v. command_from v.head v.object)) words

pub fault_of_words : (s : State) (line : List ℕ) (first kind : FaultKind) (found : Found) → words_in s line ≡ Err first → kind ≡ first → found ≡ Nothing → IsFaultOf s line kind found
fault_of_words s line first kind found words same none = record {
  first = λ some. no_command s line first words ∙ ap (λ (k : FaultKind). Err k) (sym same);
  memory = λ is. subst CanLackMemory (sym words) (sym same ∙ is);
  found_for = subst (λ (r : Result Words FaultKind). IsFoundFor r kind found) (sym words) none;
}

pub fault_of_object : (s : State) (line : List ℕ) (w : Words) (kind : FaultKind) (found : Found) → words_in s line ≡ Ok w → (kind ≢ NoMemory → command_from w.head w.object ≡ Err kind) → IsFoundIn w.object kind found → HasObject w.head → IsFaultOf s line kind found
fault_of_object s line w kind found words first found_in has = record {
  first = λ some. command_by s line w (Err kind) words (first some);
  memory = λ is. subst CanLackMemory (sym words) has;
  found_for = subst (λ (r : Result Words FaultKind). IsFoundFor r kind found) (sym words) found_in;
}

pub fault_from : (s : State) (line : List ℕ) (w : Words) (r : Result Command LineFault) → words_in s line ≡ Ok w → IfErr r (λ f. f.kind ≢ NoMemory → command_from w.head w.object ≡ Err f.kind)
    → IfErr r (λ f. IsFoundIn w.object f.kind f.found) → IfErr r (λ f. HasObject w.head) → IfErr r (λ f. IsFaultOf s line f.kind f.found)
fault_from s line w (Ok c) words first found has = search
fault_from s line w (Err f) words first found has = fault_of_object s line w f.kind f.found words first found has
