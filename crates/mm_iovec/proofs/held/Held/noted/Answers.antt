use Rattle.std.proofs.Common.{List, map, ◌∙◌, ap, sym}
use Rattle.ffm_model.specs.declared.machine.Call.TheVariants as call
use Rattle.ffm_model.specs.Held.{Holder, HeldMessage}
use Rattle.mm_iovec.specs.HeldView.{HeldView}
use Rattle.mm_iovec.specs.Items.{message_of}
use Rattle.mm_iovec.proofs.WindowLemmas.{windows-read, windows-input_touched, windows-written, windows-after}
use Rattle.mm_iovec.proofs.NotedLemmas.{noted-read, noted-write}
use Rattle.mm_iovec.proofs.held.Held.noted.Goals as goal
use Rattle.ffm_model.proofs.HeldLemmas.{noted-get, noted-reply}

abbrev with_table : Holder → List HeldMessage → HeldView
with_table p t = record { holder = p; table = t }

pub invariant_of-self : goal.invariant_of-self
invariant_of-self c =
    rw c.note_read.ensures (windows-read c.self.inside.holder c.args.instruction c.in-Read.handle c.in-Read.index (map message_of c.self.inside.messages.items) c.self.invariant)

pub invariant_of-self-in-Skip : goal.invariant_of-self-in-Skip
invariant_of-self-in-Skip c =
    rw c.touch_input.ensures (windows-input_touched c.self.inside.holder c.in-Skip.handle c.in-Skip.index (map message_of c.self.inside.messages.items) c.self.invariant)

pub invariant_of-self-in-Write : goal.invariant_of-self-in-Write
invariant_of-self-in-Write c =
    rw c.note_write.ensures (windows-written c.self.inside.holder c.args.instruction c.in-Write.handle c.in-Write.index (map message_of c.self.inside.messages.items) c.self.invariant)

pub invariant_of-self-in-Get : goal.invariant_of-self-in-Get
invariant_of-self-in-Get c =
    rw (c.note_get.ensures c.in-Get.msg) (windows-after c.self.inside.holder (call.Get c.in-Get.signal c.in-Get.msg) c.args.outcome (map message_of c.self.inside.messages.items) c.self.invariant)

pub invariant_of-self-in-Reply : goal.invariant_of-self-in-Reply
invariant_of-self-in-Reply c =
    rw (c.note_reply.ensures c.self.inside.holder c.in-Reply.status) (windows-after c.self.inside.holder (call.Reply c.in-Reply.handle c.in-Reply.status) c.args.outcome (map message_of c.self.inside.messages.items) c.self.invariant)

pub returns-in-Read : goal.returns-in-Read
returns-in-Read c =
    rw (← c.self.view_is, c.in-Read.is)
    (ap (with_table c.self.inside.holder) (c.note_read.ensures ∙ sym (noted-read c.self.inside.holder c.args.instruction c.in-Read.handle c.in-Read.index c.in-Read.buffer c.in-Read.len c.args.outcome (map message_of c.self.inside.messages.items))))

pub returns-in-Write : goal.returns-in-Write
returns-in-Write c =
    rw (← c.self.view_is, c.in-Write.is)
    (ap (with_table c.self.inside.holder) (c.note_write.ensures ∙ sym (noted-write c.self.inside.holder c.args.instruction c.in-Write.handle c.in-Write.index c.in-Write.buffer c.in-Write.len c.args.outcome (map message_of c.self.inside.messages.items))))

pub returns-in-Get : goal.returns-in-Get
returns-in-Get c =
    rw (← c.self.view_is, c.in-Get.is)
    (ap (with_table c.self.inside.holder) (c.note_get.ensures c.in-Get.msg ∙ sym (noted-get c.self.inside.holder c.args.instruction c.in-Get.signal c.in-Get.msg c.args.outcome (map message_of c.self.inside.messages.items))))

pub returns-in-Reply : goal.returns-in-Reply
returns-in-Reply c =
    rw (← c.self.view_is, c.in-Reply.is)
    (ap (with_table c.self.inside.holder) (c.note_reply.ensures c.self.inside.holder c.in-Reply.status ∙ sym (noted-reply c.self.inside.holder c.args.instruction c.in-Reply.handle c.in-Reply.status c.args.outcome (map message_of c.self.inside.messages.items))))
