use Rattle.std.proofs.Common.{◌≡◌, ◌≢◌, IfOk, IfErr, Ok, Err, Result, List, subst, sym, arith}
use Rattle.serde_json.specs.View.{view}
use Rattle.apf_files.specs.declared.requests.Request.{Request}
use Rattle.apf_files.specs.declared.requests.RequestFault.{RequestFault}
use Rattle.apf_files.specs.declared.requests.RequestFault.TheVariants.{NoMemory}
use Rattle.apf_files.proofs.RequestItems.{requests_of-many, requests_of-few}
use Rattle.apf_files.proofs.requests.requests_of_value.Goals as goal

pub returns-then-len-gt-MAX_REQUESTS-clause-err : goal.returns-then-len-gt-MAX_REQUESTS-clause-err
returns-then-len-gt-MAX_REQUESTS-clause-err c =
    λ _. requests_of-many (view c.args.value.now) c.in-Some.items.now.items c.in-Some.ensures (omega arith)

pub returns-clause-ok : goal.returns-clause-ok
returns-clause-ok c =
    let few = requests_of-few (view c.args.value.now) c.in-Some.items.now.items c.in-Some.ensures (omega arith) in
    let P : Result (List Request) RequestFault → Type 0 = λ r. IfOk c.requests_of_items.result (λ requests. r ≡ Ok requests.items) in
    subst P (sym few) (rw c.as_slice.ensures.value at c.requests_of_items.ensures.ok)

pub returns-clause-err : goal.returns-clause-err
returns-clause-err c =
    let few = requests_of-few (view c.args.value.now) c.in-Some.items.now.items c.in-Some.ensures (omega arith) in
    let P : Result (List Request) RequestFault → Type 0 = λ r. IfErr c.requests_of_items.result (λ fault. fault ≢ NoMemory → r ≡ Err fault) in
    subst P (sym few) (rw c.as_slice.ensures.value at c.requests_of_items.ensures.err)
