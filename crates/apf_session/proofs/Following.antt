-- What a follower has read once it read on.
use Rattle.std.proofs.Common.{◌≡◌, ℕ, ◌+◌, ◌-◌, ◌≤◌, Bool, true, false, cond, List, length, take, drop, ◌++◌, refl, sym, ap, ◌∙◌, subst, arith}
use Rattle.std.specs.Prelude.{nat_le}
use Rattle.std.proofs.Math.Seq.{take-append-add}
use Rattle.std.proofs.lemmas.Bool.{leb-true, leb-false}
use Rattle.std.proofs.lemmas.List.{length-append, length-drop, length-take-le, take-append-le, take_at, with_items_is}
use Rattle.std.specs.Global.{Vec}
use Rattle.std.specs.Vec.{with_items}
use Rattle.apf_history.specs.declared.events.Event.{Event}
use Rattle.apf_level.specs.Copies.{fitting, Copies}
use Rattle.apf_session.specs.Followers.{FollowerView, Gains}

fits : (events from room : ℕ) → (fitting events from room ≤ room) × (fitting events from room ≤ events - from)
fits events from room = go (nat_le (events - from) room) refl where
  go : (b : Bool) → nat_le (events - from) room ≡ b → (cond b (events - from) room ≤ room) × (cond b (events - from) room ≤ events - from)
  go true is = (leb-true (events - from) room is, omega arith)
  go false is = (omega arith, let high = leb-false (events - from) room is in omega arith)

-- all places from the first that was not read on
abbrev pub room_in : ℕ → List Event → List Event
room_in read items = take (length items - read) (drop read items)

-- what stands behind them
abbrev pub behind : ℕ → List Event → List Event
behind read items = drop (length items - read) (drop read items)

module _ (log items : List Event) (read count : ℕ) (into' : List Event) (is_read : read ≤ length items) (copied : Copies log read (room_in read items) count into') where
  abbrev into : List Event
  into = room_in read items

  abbrev rest : List Event
  rest = behind read items

  room : length into ≡ length items - read
  room = length-take-le (length items - read) (drop read items) (let l = length-drop read items in omega arith)

  nothing : length rest ≡ 0
  nothing = let l = length-drop read items in let m = length-drop (length items - read) (drop read items) in omega arith

  abbrev all : List Event
  all = take read items ++ (into' ++ rest)

  inside : count ≤ length (drop read log)
  inside = let fit = fits (length log) read (length into) in let least = fit.1 in let is = copied.count_is in let long = length-drop read log in omega arith

  small : count ≤ length into
  small = let fit = fits (length log) read (length into) in let most = fit.0 in let is = copied.count_is in omega arith

  long : length (take count (drop read log)) ≡ count
  long = length-take-le count (drop read log) inside

  same_length : length into' ≡ length into
  same_length =
      let is = ap length copied.copied in
      let both = length-append (take count (drop read log)) (drop count into) in
      let left = length-drop count into in
      let a = long in let b = small in omega arith

  before : length (take read items) ≡ read
  before = length-take-le read items is_read

  gained : take (read + count) all ≡ take read items ++ take count (drop read log)
  gained =
      ap (λ (n : ℕ). take (n + count) all) (sym before)
      ∙ (take-append-add (take read items) (into' ++ rest) count
      ∙ ap (λ (l : List Event). take read items ++ l)
      (take-append-le count into' rest (let a = same_length in let b = small in omega arith)
      ∙ (ap (take count) copied.copied ∙ take_at (take count (drop read log)) (drop count into) count long)))

  as_long : length all ≡ length items
  as_long = let a = before in let b = same_length in let e = room in let f = nothing in let c = length-append (take read items) (into' ++ rest) in let d = length-append into' rest in omega arith

  gains : Gains log (record { events = take read items; room = length items }) (record { events = take (read + count) all; room = length all })
  gains = record {
    gained = subst (λ (n : ℕ). take (read + count) all ≡ take read items ++ take (fitting (length log) n (length items - n)) (drop n log)) (sym before)
        (gained ∙ ap (λ (n : ℕ). take read items ++ take n (drop read log)) (copied.count_is ∙ ap (fitting (length log) read) room));
    room = as_long;
  }

-- the list that was lent is the one that the follower had, and is put in its place again
pub gains_from : (log : List Event) (old : FollowerView) (kept : Vec Event) (lent : List Event) (read count : ℕ) (into' : List Event) → old ≡ record { events = take read kept.items; room = length kept.items } → lent ≡ kept.items
    → read ≤ length kept.items → Copies log read (room_in read lent) count into'
    → Gains log old (record { events = take (read + count) (with_items kept (take read lent ++ (into' ++ behind read lent))).items; room = length (with_items kept (take read lent ++ (into' ++ behind read lent))).items })
gains_from log old kept lent read count into' was same is_read copied =
    let inside : read ≤ length lent = subst (λ (l : List Event). read ≤ length l) (sym same) is_read in
    let new : List Event = take read lent ++ (into' ++ behind read lent) in
    let stands : (with_items kept new).items ≡ new = with_items_is kept new (as_long log lent read count into' inside copied ∙ (ap length same ∙ sym kept.ok.0)) in
    subst (λ (f : FollowerView). Gains log f (record { events = take (read + count) (with_items kept new).items; room = length (with_items kept new).items }))
    (ap (λ (l : List Event). record { events = take read l; room = length l }) same ∙ sym was)
    (subst (λ (l : List Event). Gains log (record { events = take read lent; room = length lent }) (record { events = take (read + count) l; room = length l })) (sym stands) (gains log lent read count into' inside copied))
