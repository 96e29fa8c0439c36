-- What is read comes behind what is kept, or behind what is dropped.
use Rattle.std.proofs.Common.{rules, ◌≡◌, take, drop, ℕ, Bool, List, refl, sym, ◌∙◌, subst, Err}
use Rattle.std.specs.Vec.{with_items}
use Rattle.std.proofs.lemmas.List.{with_items_is}
use Rattle.apf_lines.specs.Lines.{HasNoLf, LinesView}
use Rattle.apf_lines.specs.Buffer.{between}
use Rattle.apf_lines.proofs.Filling.{IsReady, filled, stayed, came}
use Rattle.apf_lines.proofs.lines.Lines.fill.Goals as goal

pub returns-in_err-count : goal.returns-in_err-count
returns-in_err-count g c =
    let old : List ℕ = c.self.inside.bytes.items in
    let new : List ℕ = c.read_behind.new.bytes in
    let start : ℕ = c.self.inside.start in
    let end : ℕ = c.self.inside.end in
    let is_skipped : Bool = c.is_too_long-self-inside.result in
    let kept : ℕ = c.kept_further-self-inside.result in
    let ready : IsReady c.self.inside.longest start end old c.self.inside.is_skipped is_skipped kept new = record {
      order = c.self.invariant.in_order;
      inside = c.self.invariant.inside;
      skips = c.is_too_long-self-inside.ensures;
      keeps = c.kept_further-self-inside.ensures;
      moved = c.read_behind.ensures.stay ∙ (c.move_to_front.ensures.moved ∙ search (c.as_mut_slice-bytes.ensures.value, rules));
    } in
    let whole : HasNoLf (between start end old) = subst (λ (v : LinesView). HasNoLf v.kept) (sym c.self.view_is) c.requires in
    let items : (with_items c.self.inside.bytes new).items ≡ new = with_items_is c.self.inside.bytes new (search (c.read_behind.ensures.room, c.move_to_front.ensures.room, c.as_mut_slice-bytes.ensures.len, rules)) in
    let failed : c.from_residual.result ≡ Err c.in_err-count.field-0.0 = search (c.from_residual.ensures, rules) in
    rw (← c.self.view_is, items, failed) (record {
      reads = record {
        kept = c.in_err-count.ensures.bytes;
        of_each = λ rest u. stayed c.self.inside.longest start end (between c.self.inside.from c.self.inside.to old) old c.self.inside.is_skipped is_skipped kept new rest ready whole u;
      };
      longest = refl;
    })

pub returns : goal.returns
returns g c =
    let old : List ℕ = c.self.inside.bytes.items in
    let new : List ℕ = c.read_behind.new.bytes in
    let start : ℕ = c.self.inside.start in
    let end : ℕ = c.self.inside.end in
    let is_skipped : Bool = c.is_too_long-self-inside.result in
    let kept : ℕ = c.kept_further-self-inside.result in
    let count : ℕ = c.in_ok-count.count in
    let ready : IsReady c.self.inside.longest start end old c.self.inside.is_skipped is_skipped kept new = record {
      order = c.self.invariant.in_order;
      inside = c.self.invariant.inside;
      skips = c.is_too_long-self-inside.ensures;
      keeps = c.kept_further-self-inside.ensures;
      moved = c.read_behind.ensures.stay ∙ (c.move_to_front.ensures.moved ∙ search (c.as_mut_slice-bytes.ensures.value, rules));
    } in
    let whole : HasNoLf (between start end old) = subst (λ (v : LinesView). HasNoLf v.kept) (sym c.self.view_is) c.requires in
    let items : (with_items c.self.inside.bytes new).items ≡ new = with_items_is c.self.inside.bytes new (search (c.read_behind.ensures.room, c.move_to_front.ensures.room, c.as_mut_slice-bytes.ensures.len, rules)) in
    rw (← c.self.view_is, items) (record {
      reads = record {
        bytes = take count (drop kept new);
        count_is = came kept count new c.in_ok-count.ensures.bytes.inside;
        given = c.in_ok-count.ensures.bytes.given;
        end = c.in_ok-count.ensures.bytes.end;
        of_each = λ rest u. filled c.self.inside.longest start end (between c.self.inside.from c.self.inside.to old) old c.self.inside.is_skipped is_skipped kept count new rest ready whole u;
      };
      longest = refl;
    })
