-- Nothing more is read, or a line, one that is too long, or no line yet.
use Rattle.std.proofs.Common.{◌≡◌, ◌+◌, false, Option, Some, Ok, Err, map, sym, ap, ◌∙◌, subst}
use Rattle.std.specs.Prelude.{◌||◌, nat_le}
use Rattle.apf_request_lines.specs.declared.line.RequestLine.{RequestLine}
use Rattle.apf_request_halves.specs.declared.halves.Turn.TheVariants.{Found, More, Over}
use Rattle.apf_request_halves.specs.Held.{placed}
use Rattle.apf_request_halves.specs.Reading.{HalvesView, TakesLine}
use Rattle.apf_request_halves.proofs.Taking.{at_lines}
use Rattle.apf_request_halves.proofs.Turning.{line_found, line_kept, line_refused, long_passed, no_more, not_far, not_over, why_over}
use Rattle.apf_request_halves.proofs.halves.RequestHalves.turn.Goals as goal

pub returns-then-is_over : goal.returns-then-is_over
returns-then-is_over g c = λ bytes asked h without.
    no_more c.args.id.now bytes asked (g.R.Read.remaining c.args.input.now) (Ok Over) c.args.self.now
    (h, without, why_over c.args.self.now.is_ended c.args.self.now.limit c.args.self.now.number (sym c.is_over.ensures ∙ c.if-is_over.true))

pub returns-in-Ok-Some : goal.returns-in-Ok-Some
returns-in-Ok-Some g c =
    let v : HalvesView = record { lines = c.self.inside.lines; held = map placed c.self.inside.store.entries; number = c.self.inside.number; dropped = c.self.inside.dropped; limit = c.self.inside.limit; is_ended = c.self.inside.is_ended } in
    let goes_on : (v.is_ended || nat_le v.limit v.number) ≡ false = ap (λ (w : HalvesView). w.is_ended || nat_le w.limit w.number) c.self.view_is ∙ sym c.is_over.ensures ∙ c.if-is_over.false in
    let open_still = not_over v.is_ended v.limit v.number goes_on in
    let near = not_far v.is_ended v.limit v.number goes_on in
    let w : HalvesView = record {
      lines = c.self-in-Line.inside.lines;
      held = map placed c.self-in-Line.inside.store.entries;
      number = c.self-in-Line.inside.number;
      dropped = c.self-in-Line.inside.dropped;
      limit = c.self-in-Line.inside.limit;
      is_ended = c.self-in-Line.inside.is_ended;
    } in
    let line = c.in-Ok-Some.line in
    let limit = c.limit_behind-self-inside.result in
    let u : HalvesView = record { lines = w.lines; held = w.held; number = w.number; dropped = w.dropped; limit = limit; is_ended = w.is_ended } in
    let took : TakesLine c.args.id.now (at_lines v c.cut.new.self) (Some line) w = subst (TakesLine c.args.id.now (at_lines v c.cut.new.self) (Some line)) (sym c.self-in-Line.view_is)
    (subst (λ (found : Option RequestLine). TakesLine c.args.id.now (at_lines v c.cut.new.self) found c.take_line.new.self) c.in-Ok-Some.field-0-is c.in-Ok-Some.ensures) in
    let was = g.R.Read.remaining c.args.input.now in
    rw (← c.self.view_is) (λ bytes asked h without.
    no_more c.args.id.now bytes asked was (Ok (Found line)) u (rw c.limit_behind-self-inside.ensures (line_found bytes asked was v h open_still near c.cut.new.self c.in-Line.ensures c.args.id.now line w took)))

pub returns-in-Ok-None : goal.returns-in-Ok-None
returns-in-Ok-None g c =
    let v : HalvesView = record { lines = c.self.inside.lines; held = map placed c.self.inside.store.entries; number = c.self.inside.number; dropped = c.self.inside.dropped; limit = c.self.inside.limit; is_ended = c.self.inside.is_ended } in
    let goes_on : (v.is_ended || nat_le v.limit v.number) ≡ false = ap (λ (w : HalvesView). w.is_ended || nat_le w.limit w.number) c.self.view_is ∙ sym c.is_over.ensures ∙ c.if-is_over.false in
    let open_still = not_over v.is_ended v.limit v.number goes_on in
    let near = not_far v.is_ended v.limit v.number goes_on in
    let was = g.R.Read.remaining c.args.input.now in
    rw (← c.self.view_is) (λ bytes asked h without.
    no_more c.args.id.now bytes asked was (Ok More) c.take_line.new.self
    (line_kept bytes asked was v h open_still near c.cut.new.self c.in-Line.ensures c.args.id.now c.take_line.new.self
    (subst (λ (found : Option RequestLine). TakesLine c.args.id.now (at_lines v c.cut.new.self) found c.take_line.new.self) c.in-Ok-None.field-0-is c.in-Ok-None.ensures) without))

pub returns-in-Err : goal.returns-in-Err
returns-in-Err g c =
    let v : HalvesView = record { lines = c.self.inside.lines; held = map placed c.self.inside.store.entries; number = c.self.inside.number; dropped = c.self.inside.dropped; limit = c.self.inside.limit; is_ended = c.self.inside.is_ended } in
    let goes_on : (v.is_ended || nat_le v.limit v.number) ≡ false = ap (λ (w : HalvesView). w.is_ended || nat_le w.limit w.number) c.self.view_is ∙ sym c.is_over.ensures ∙ c.if-is_over.false in
    let open_still = not_over v.is_ended v.limit v.number goes_on in
    let near = not_far v.is_ended v.limit v.number goes_on in
    let was = g.R.Read.remaining c.args.input.now in
    rw (← c.self.view_is) (λ bytes asked h without.
    no_more c.args.id.now bytes asked was (Err c.in-Err.fault) c.take_line.new.self
    (line_refused bytes asked was v h open_still near c.cut.new.self c.in-Line.ensures c.args.id.now c.in-Err.fault c.take_line.new.self c.in-Err.ensures))

pub returns-in-TooLong : goal.returns-in-TooLong
returns-in-TooLong g c =
    let v : HalvesView = record { lines = c.self.inside.lines; held = map placed c.self.inside.store.entries; number = c.self.inside.number; dropped = c.self.inside.dropped; limit = c.self.inside.limit; is_ended = c.self.inside.is_ended } in
    let goes_on : (v.is_ended || nat_le v.limit v.number) ≡ false = ap (λ (w : HalvesView). w.is_ended || nat_le w.limit w.number) c.self.view_is ∙ sym c.is_over.ensures ∙ c.if-is_over.false in
    let open_still = not_over v.is_ended v.limit v.number goes_on in
    let near = not_far v.is_ended v.limit v.number goes_on in
    let u : HalvesView = record { lines = c.cut.new.self; held = v.held; number = v.number + 1; dropped = v.dropped; limit = v.limit; is_ended = v.is_ended } in
    let was = g.R.Read.remaining c.args.input.now in
    rw (← c.self.view_is) (λ bytes asked h without.
    no_more c.args.id.now bytes asked was (Ok More) u (long_passed bytes asked was v h open_still near c.cut.new.self c.in-TooLong.ensures, without))
