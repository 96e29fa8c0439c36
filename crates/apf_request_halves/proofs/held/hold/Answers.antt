-- A line is put into the store.
use Rattle.std.proofs.Common.{◌≡◌, ℕ, List, true, ap, sym, option_map}
use Rattle.std.specs.Prelude.{bytes_eq, Vec}
use Rattle.std.specs.Cmp.Lexicographic.{bytes_decides}
use Rattle.std.specs.declared.alloc.Global.{Global}
use Rattle.apf_request_halves.specs.declared.held.Held.{Held}
use Rattle.apf_request_halves.specs.Held.{placed}
use Rattle.apf_request_halves.proofs.Store.{put_in}
use Rattle.apf_request_halves.proofs.held.hold.Goals as goal

same_ids : (a b : List ℕ) → bytes_eq a b ≡ true → a ≡ b
same_ids a b is = (bytes_decides a b).0 is

-- lines of one id that say the same are one
same_line : (held : Held) (x k : Vec ℕ Global) → k.items ≡ x.items → placed (x, held) ≡ placed (k, held)
same_line held x k is = ap (λ (id : List ℕ). record {
  number = held.number;
  request = record {
    audit_id = id;
    schema = option_map (λ text. text.items) held.schema;
    level = option_map (λ text. text.items) held.level;
    seats = held.seats;
    runs_for = held.runs_for;
  };
}) (sym is)

pub returns-clause-held : goal.returns-clause-held
returns-clause-held c = rw (c.len.ensures.len, c.len-before.ensures.len, c.in_ok-push.ensures.entries)
    (put_in placed (λ (x y : Vec ℕ Global). bytes_eq x.items y.items) c.args.store.now c.args.id c.args.held (λ x same. same_line c.args.held x c.args.id (same_ids c.args.id.items x.items same)) (λ e same. same)
    c.len-before.ensures.valid.1 c.requires)
