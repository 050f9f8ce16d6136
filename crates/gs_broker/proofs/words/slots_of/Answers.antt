use Rattle.std.proofs.Common.{arith, inl, inr}
use Rattle.gs_broker.proofs.Slots.{short_slots, long_slots, slots_shape}
use Rattle.gs_broker.proofs.words.slots_of.Goals as goal

pub returns-in-len1 : goal.returns-in-len1
returns-in-len1 c = short_slots c.args.word.now (omega arith) c.if-d-ge49.true c.if-d-le57.true

pub returns-in-len2 : goal.returns-in-len2
returns-in-len2 c = long_slots c.args.word.now (omega arith) c.if-t-eq49.true c.if-d-ge48.true c.if-d-le54.true

pub returns-in_default : goal.returns-in_default
returns-in_default c = λ n is. elim (slots_shape c.args.word.now n is) [ inl s ↦ absurd (omega arith) | inr l ↦ absurd (omega arith) ]

pub returns-in_default-2 : goal.returns-in_default-2
returns-in_default-2 c = λ n is. elim (slots_shape c.args.word.now n is) [ inl s ↦ absurd (omega arith) | inr l ↦ absurd (omega arith) ]

pub returns-in_default-3 : goal.returns-in_default-3
returns-in_default-3 c = λ n is. elim (slots_shape c.args.word.now n is) [ inl s ↦ absurd (omega arith) | inr l ↦ absurd (omega arith) ]

pub returns-in_default-4 : goal.returns-in_default-4
returns-in_default-4 c = λ n is. elim (slots_shape c.args.word.now n is) [ inl s ↦ absurd (omega arith) | inr l ↦ absurd (omega arith) ]

pub returns-in_default-5 : goal.returns-in_default-5
returns-in_default-5 c = λ n is. elim (slots_shape c.args.word.now n is) [ inl s ↦ absurd (omega arith) | inr l ↦ absurd (omega arith) ]

pub returns-in_default-6 : goal.returns-in_default-6
returns-in_default-6 c = λ n is. elim (slots_shape c.args.word.now n is) [ inl s ↦ absurd (omega arith) | inr l ↦ absurd (omega arith) ]

pub returns-in_default-7 : goal.returns-in_default-7
returns-in_default-7 c = λ n is. elim (slots_shape c.args.word.now n is) [ inl s ↦ absurd (omega arith) | inr l ↦ absurd (omega arith) ]
