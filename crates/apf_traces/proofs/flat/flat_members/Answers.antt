-- The members, one after the other.
use Rattle.std.proofs.Common.{◌≡◌, ◌-◌, ◌<◌, length, Some, None, string_bytes, ap, sym, ◌∙◌, arith, rules}
use Rattle.json.specs.Json.{members, read_key, value}
use Rattle.json.proofs.Grammar.{read_key-shorter}
use Rattle.serde_json.specs.Data.{put}
use Rattle.serde_json.specs.Read.{of_members, converted}
use Rattle.serde_json.specs.View.{members_view, view}
use Rattle.serde_json.proofs.Views.{members_view-insert_entry}
use Rattle.apf_traces.proofs.Members.{member_read, members_over}
use Rattle.apf_traces.proofs.flat.flat_members.Goals as goal

pub members-init : goal.members-init
members-init c = (
  length c.args.reader.now,
  omega arith,
  λ depth.
      let all = members (value depth) (length c.args.reader.now) c.args.reader.now in
      ap (λ es. converted (λ ms. of_members ms (members_view es)) all) (sym c.new-found.ensures.empty),
)

pub members-preserved : goal.members-preserved
members-preserved c =
    let l = c.members in
    let n = l.invariant.0 in
    let old = members_view l.found.entries in
    let k = c.in-Some.name.now in
    let s = c.next_key.new.self in
    let named : read_key l.reader ≡ Some (Some k, s) = grind arith in
    let done = c.in_ok-member.ensures in
    let v = c.in_ok-member.member in
    let r = c.flat_value.new.reader in
    let less = read_key-shorter l.reader (Some k) s named in
    let lesser = done.shorter in
    let copied : string_bytes c.in_ok-key.key ≡ k = search rules in
    let inserted : members_view c.insert.new.self.entries ≡ put k (view v) old =
    ap members_view c.in_ok-insert.ensures.entries ∙ members_view-insert_entry l.found.entries c.in_ok-key.key v ∙ ap (λ name. put name (view v) old) copied in (
      n - 1,
      omega (arith, l.invariant.1),
      λ depth. l.invariant.2 depth ∙ member_read (value depth) old n k l.reader s r (view v) (omega (arith, l.invariant.1)) named (done.value depth)
          ∙ ap (λ found. converted (λ ms. of_members ms found) (members (value depth) (n - 1) r)) (sym inserted),
    )

pub returns : goal.returns
returns c = λ depth.
    let l = c.members in
    let n = l.invariant.0 in
    let ended : read_key l.reader ≡ Some (None, c.next_key.new.self) = grind arith in
    l.invariant.2 depth ∙ members_over (value depth) (members_view l.found.entries) n l.reader c.next_key.new.self l.invariant.1 ended
