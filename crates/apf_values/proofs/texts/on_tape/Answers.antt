-- One item more, and the end.
use Rattle.apf_values.proofs.Listed.{text_more, no_text, all_read}
use Rattle.apf_values.specs.Texts.{texts_read}
use Rattle.apf_values.proofs.texts.on_tape.Goals as goal

pub items-preserved-in-Continue-1 : goal.items-preserved-in-Continue-1
items-preserved-in-Continue-1 c = λ js ds begin is.
    text_more c.items.items c.next.new.self c.in-Some.item c.items.texts.items ds (c.items.invariant js ds begin is) c.in-Some.ensures.value c.push.new.self.items c.in-Some-as_str.text c.in_ok-push-in-Some-as_str.ensures.items c.in-Some-as_str.ensures

pub items-preserved : goal.items-preserved
items-preserved c = λ js ds begin is.
    no_text c.items.items c.next.new.self c.in-Some.item c.items.texts.items ds (c.items.invariant js ds begin is) c.in-Some.ensures.value c.in-None.ensures

pub returns : goal.returns
returns c = λ js ds begin is. all_read c.items.items c.next.new.self (texts_read c.items.texts.items) ds (c.items.invariant js ds begin is) c.in_default.ensures.value
