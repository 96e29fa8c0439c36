-- The line of what the bytes are read as is that of each fault but two.
use Rattle.std.proofs.Common.{◌≢◌, ℕ, List, Option, refl, rules}
use Rattle.apf_files.specs.declared.requests.RequestFault.{RequestFault}
use Rattle.apf_files.specs.declared.requests.RequestFault.TheVariants.{NotJson, NotArray, TooMany, NotObject, UnknownKey, BadFlow, BadWidth, BadWork, BadCancels, BadCloses, NoMemory}
use Rattle.apf_explain.specs.Lines.{requests_text, IsReadLine, IsRequestsLine}
use Rattle.apf_explain.proofs.requests.explain_requests.Goals as goal

read_says : (name bytes : List ℕ) (fault : RequestFault) (before after : Option (List ℕ)) → fault ≢ NotJson → fault ≢ NoMemory
    → IsReadLine (λ o. requests_text name o fault) bytes before after → IsRequestsLine name bytes fault before after
read_says name bytes NotJson before after no_json no_memory line = absurd (no_json refl)
read_says name bytes NotArray before after no_json no_memory line = line
read_says name bytes TooMany before after no_json no_memory line = line
read_says name bytes (NotObject i) before after no_json no_memory line = line
read_says name bytes (UnknownKey i) before after no_json no_memory line = line
read_says name bytes (BadFlow i) before after no_json no_memory line = line
read_says name bytes (BadWidth i) before after no_json no_memory line = line
read_says name bytes (BadWork i) before after no_json no_memory line = line
read_says name bytes (BadCancels i) before after no_json no_memory line = line
read_says name bytes (BadCloses i) before after no_json no_memory line = line
read_says name bytes NoMemory before after no_json no_memory line = absurd (no_memory refl)

pub returns-clause-line : goal.returns-clause-line
returns-clause-line g c =
    let line : IsReadLine (λ o. requests_text c.args.name.now o c.args.fault) c.args.bytes.now (g.W.Write.contents c.args.out.now) (g.W.Write.contents c.write_requests.new.out) = search rules in
    read_says c.args.name.now c.args.bytes.now c.args.fault _ _ (search rules) (search rules) line
