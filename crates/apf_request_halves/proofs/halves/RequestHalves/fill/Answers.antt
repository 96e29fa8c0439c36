-- More is read, or the input is at its end, or it failed.
use Rattle.std.proofs.Common.{◌≡◌, [], ◌++◌, false, inr, map, refl, ap, ◌∙◌}
use Rattle.std.proofs.KnownBytes.{Consumes-kept, Consumes-nil}
use Rattle.apf_request_halves.specs.Held.{placed}
use Rattle.apf_request_halves.specs.Reading.{HalvesView}
use Rattle.apf_request_halves.proofs.Taking.{at_lines, ended, read_more, still_read}
use Rattle.apf_request_halves.proofs.halves.RequestHalves.fill.Goals as goal

pub returns-then-count-eq0 : goal.returns-then-count-eq0
returns-then-count-eq0 g c =
    let v : HalvesView = record { lines = c.self.inside.lines; held = map placed c.self.inside.store.entries; number = c.self.inside.number; dropped = c.self.inside.dropped; limit = c.self.inside.limit; is_ended = c.self.inside.is_ended } in
    let goes_on : v.is_ended ≡ false = ap (λ (w : HalvesView). w.is_ended) c.self.view_is ∙ c.requires.goes_on in
    let gains = c.in-Ok.ensures.reads in
    let end = gains.end c.if-count-eq0.true in
    let was = g.R.Read.remaining c.args.input.now in
    let left = g.R.Read.remaining c.fill.new.input in
    rw (← c.self.view_is) (λ id bytes asked h without. (
      gains.bytes,
      gains.given,
      (ended (bytes ++ gains.bytes) asked left (at_lines v c.fill.new.self) (read_more bytes asked was left v h goes_on c.fill.new.self gains.bytes gains.of_each c.in-Ok.ensures.longest) goes_on end, without, inr refl),
    ))

pub returns-in-Ok : goal.returns-in-Ok
returns-in-Ok g c =
    let v : HalvesView = record { lines = c.self.inside.lines; held = map placed c.self.inside.store.entries; number = c.self.inside.number; dropped = c.self.inside.dropped; limit = c.self.inside.limit; is_ended = c.self.inside.is_ended } in
    let goes_on : v.is_ended ≡ false = ap (λ (w : HalvesView). w.is_ended) c.self.view_is ∙ c.requires.goes_on in
    let gains = c.in-Ok.ensures.reads in
    let was = g.R.Read.remaining c.args.input.now in
    let left = g.R.Read.remaining c.fill.new.input in
    rw (← c.self.view_is) (λ id bytes asked h without. (
      gains.bytes,
      gains.given,
      (read_more bytes asked was left v h goes_on c.fill.new.self gains.bytes gains.of_each c.in-Ok.ensures.longest, without),
    ))

pub returns-then-eq : goal.returns-then-eq
returns-then-eq g c =
    let v : HalvesView = record { lines = c.self.inside.lines; held = map placed c.self.inside.store.entries; number = c.self.inside.number; dropped = c.self.inside.dropped; limit = c.self.inside.limit; is_ended = c.self.inside.is_ended } in
    let goes_on : v.is_ended ≡ false = ap (λ (w : HalvesView). w.is_ended) c.self.view_is ∙ c.requires.goes_on in
    let stays = c.in-Err.ensures.reads in
    let was = g.R.Read.remaining c.args.input.now in
    let left = g.R.Read.remaining c.fill.new.input in
    rw (← c.self.view_is) (λ id bytes asked h without. (
      [],
      Consumes-kept was was left [] (Consumes-nil was) stays.kept,
      (still_read bytes asked was left v h goes_on c.fill.new.self stays.of_each c.in-Err.ensures.longest, without),
    ))

pub returns-in-Err : goal.returns-in-Err
returns-in-Err g c =
    let v : HalvesView = record { lines = c.self.inside.lines; held = map placed c.self.inside.store.entries; number = c.self.inside.number; dropped = c.self.inside.dropped; limit = c.self.inside.limit; is_ended = c.self.inside.is_ended } in
    let goes_on : v.is_ended ≡ false = ap (λ (w : HalvesView). w.is_ended) c.self.view_is ∙ c.requires.goes_on in
    let stays = c.in-Err.ensures.reads in
    let was = g.R.Read.remaining c.args.input.now in
    let left = g.R.Read.remaining c.fill.new.input in
    rw (← c.self.view_is) (λ id bytes asked h without. (
      [],
      Consumes-kept was was left [] (Consumes-nil was) stays.kept,
      still_read bytes asked was left v h goes_on c.fill.new.self stays.of_each c.in-Err.ensures.longest,
    ))
