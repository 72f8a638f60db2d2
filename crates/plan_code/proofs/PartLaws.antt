-- The laws of the formats of labels, instructions and lines.
use Rattle.plan_code.proofs.Words.{[], ◌++◌, ◌-◌, ◌<◌, ◌∷◌, ◌≡◌, ◌≤◌, ◌▸◌, AddComponent, AddPacket, AddService, AddSub}
use Rattle.plan_code.proofs.Words.{AreBounds, Bool, CommitAt, CommitIn, DropComponent, DropPacket, DropService, DropSub}
use Rattle.plan_code.proofs.Words.{End, Front, Goes, IfSome, Instr, IsCarrier, IsDayFrame, IsFrames, IsInstr, IsLabel}
use Rattle.plan_code.proofs.Words.{IsLine, IsNewPacket, IsNewSub, Join, Jump, Label, List, Loop, MoveSub, None, Ok}
use Rattle.plan_code.proofs.Words.{Opcode, Option, Placed, RateSub, Set, Settle, Some, Test, TestTime, Until, Wait}
use Rattle.plan_code.proofs.Words.{WaitAny, WaitContact, any_u16, ap, arith, bind_ok, bounds, byte_at, byte_front}
use Rattle.plan_code.proofs.Words.{byte_of, carrier_bytes, carrier_kind, contacts, counter, day_frame, day_frame_number}
use Rattle.plan_code.proofs.Words.{day_frame_or_none, delay, eqb, eqb-true, false, frames_number, frames_or_none}
use Rattle.plan_code.proofs.Words.{goes_bind, goes_byte, goes_fault, goes_judged, goes_number, instr_bytes, instr_kind}
use Rattle.plan_code.proofs.Words.{judged, le-ltb, length, long_again, long_front, ltb, ne_eqb, no_bound, no_day_frame}
use Rattle.plan_code.proofs.Words.{number_at, ok_is, ok_or, opcode, opcode_byte, opcode_of, place, place_same}
use Rattle.plan_code.proofs.Words.{placed_bind, placed_judged, refl, some_number, some_or_none, subst, suc, swap_bytes}
use Rattle.plan_code.proofs.Words.{swap_kind, sym, times, to_be_bytes, true, u16_from, w32, zero, ℕ}
use Rattle.mux_types.specs.declared.parts.Carrier.{Carrier}
use Rattle.mux_config.specs.declared.record.RecordFault.TheVariants.{Field}
use Rattle.mux_config.specs.FieldReading.{◌>>=◌}
use Rattle.plan_code.specs.declared.label.Swap.{Swap}
use Rattle.plan_code.specs.declared.label.Swap.TheVariants.{Idle, Within, Perhaps}
use Rattle.mux_types.specs.declared.parts.Carrier.TheVariants.{Sub as BySub, Packet as ByPacket}
use Rattle.plan_code.specs.declared.instr.Instr.TheVariants.{Edit as Edits}
use Rattle.plan_code.specs.Parts.{swap, label, new_sub, new_packet, carrier, instr, line}
use Rattle.plan_code.proofs.FormatLaws.{IsLawful, adapted, follows_is, ◌then◌, made_is, IsKind, kind_is, IsTagged}
use Rattle.plan_code.proofs.FormatLaws.{tagged_is, nothing_is, any_byte_is, byte_is, byte_below, any_u16_is, judged_is}
use Rattle.plan_code.proofs.FormatLaws.{IsFrom, u16_is, u32_is, u16_below, wide32, placed_wide, flag_is, protection_is}
use Rattle.plan_code.proofs.FormatLaws.{sid_is, component_is}
use Rattle.plan_code.proofs.OpcodeLaws.{taken, some_given, opcode_only, opcode_again}

-- ---- labels

abbrev AreWithin : ℕ × ℕ → Type 0
AreWithin b = (1 ≤ b.0) × (b.0 ≤ b.1) × (b.1 < 65536)

bounds_is : IsLawful bounds AreWithin
bounds_is =
    adapted AreWithin (follows_is (λ low. u16_from low 65535) (λ low. IsFrom 65536 low 65535) (u16_is 1 65535)
    (λ low. u16_is low 65535))
    (λ b is. (is.0.0, is.1.0, is.1.2))
    (λ b is. ((is.0, omega (arith, is.1, is.2), omega (arith, is.1, is.2)), (is.1, omega (arith, is.2), is.2)))

no_frames : IsFrom 65536 0 0 0
no_frames = (omega arith, omega arith, omega arith)

no_bound_is : IsLawful no_bound (λ _. Unit {0})
no_bound_is = made_is (λ _. tt) (λ _. 0) (λ _. Unit {0}) (u16_is 0 0) (λ n is. (tt, omega (arith, is.1)))
    (λ u _. (no_frames, refl))

perhaps_is : IsLawful (no_bound ▸ u16_from 1 65535) (λ x. (1 ≤ x.1) × (x.1 < 65536))
perhaps_is = adapted _ (no_bound_is then u16_is 1 65535) (λ x is. (is.1.0, is.1.2))
    (λ x is. (tt, (is.0, omega (arith, is.1), is.1)))

abbrev IsSwapNumber : ℕ → Type 0
IsSwapNumber n = (0 ≤ n) × (n ≤ 2)

swap_kind_is : (n : ℕ) → IsKind (swap_kind n) (IsSwapNumber n) (byte_of n) swap_bytes AreBounds
swap_kind_is zero = kind_is (adapted (λ _. Unit {0}) (no_bound_is then no_bound_is) (λ x is. tt) (λ x is. (tt, tt)))
    (λ known x. refl)
swap_kind_is (suc zero) = kind_is bounds_is (λ known x. refl)
swap_kind_is (suc (suc zero)) = kind_is perhaps_is (λ known x. refl)
swap_kind_is (suc (suc (suc more))) = kind_is perhaps_is (λ known x. absurd (omega (arith, known.1)))

swap_tagged : (s : Swap) → AreBounds s → IsTagged IsSwapNumber swap_kind s
swap_tagged Idle is = record { tag = 0; parts = (tt, tt); known = (omega arith, omega arith); is = refl }
swap_tagged (Within lo hi) is = record { tag = 1; parts = (lo, hi); known = (omega arith, omega arith); is = refl }
swap_tagged (Perhaps hi) is = record { tag = 2; parts = (tt, hi); known = (omega arith, omega arith); is = refl }

swap_is : IsLawful swap AreBounds
unfolding swap
swap_is = tagged_is swap_kind swap_bytes AreBounds (byte_is 0 2) swap_kind_is swap_tagged

-- the fields of a label, in the ranges that reading grants
pub record IsLabelFrom (count low : ℕ) (l : Label) : Type 0 where
  pub pc : IsFrom 65536 low 65535 l.pc
  pub cur : IsFrom 65536 0 (count - 1) l.cur
  pub next : IsFrom 65536 0 (count - 1) l.next
  pub pending : AreBounds l.pending
  pub counters : l.counters.0 < 256
  pub cost : (1 ≤ l.cost) × (l.cost ≤ 255)

pub label_is : (count low : ℕ) → IsLawful (label count low) (IsLabelFrom count low)
unfolding label
label_is count low =
    made_is _ _ (IsLabelFrom count low)
    (u16_is low 65535 then u16_is 0 (count - 1) then u16_is 0 (count - 1) then swap_is then any_byte_is then byte_is
    1 255)
    (λ x is. (
      record {
        pc = is.0.0.0.0.0;
        cur = is.0.0.0.0.1;
        next = is.0.0.0.1;
        pending = is.0.0.1;
        counters = is.0.1;
        cost = is.1;
      },
      refl,
    ))
    (λ l is. ((((((is.pc, is.cur), is.next), is.pending), is.counters), is.cost), refl))

pub label_formed : (count low : ℕ) (l : Label) → 1 ≤ count → IsLabelFrom count low l → IsLabel count l
label_formed count low l some is = record {
  place = is.pc.2;
  current = omega (arith, is.cur.1, some);
  following = omega (arith, is.next.1, some);
  bounds = is.pending;
  set = is.counters;
  cost_from = is.cost.0;
  cost_to = is.cost.1;
}

pub formed_label : (count low : ℕ) (l : Label) → count ≤ 256 → IsLabel count l → low ≤ l.pc → IsLabelFrom count low l
formed_label count low l few is from = record {
  pc = (from, omega (arith, is.place), is.place);
  cur = (omega arith, omega (arith, is.current), omega (arith, is.current, few));
  next = (omega arith, omega (arith, is.following), omega (arith, is.following, few));
  pending = is.bounds;
  counters = is.set;
  cost = (is.cost_from, is.cost_to);
}

-- ---- operands

times_is : IsLawful times IsFrames
times_is = adapted IsFrames (u16_is 1 65535) (λ n is. (is.0, is.2)) (λ n is. (is.0, omega (arith, is.1), is.1))

delay_is : IsLawful delay (λ n. (1 ≤ n) × (n ≤ 60000))
delay_is = adapted (λ n. (1 ≤ n) × (n ≤ 60000)) (u16_is 1 60000) (λ n is. (is.0, is.1))
    (λ n is. (is.0, is.1, omega (arith, is.1)))

day_frame_is : IsLawful day_frame IsDayFrame
day_frame_is = adapted IsDayFrame (u32_is 0 3599999) (λ n is. omega (arith, is.1))
    (λ n is. (omega arith, omega (arith, is), omega (arith, is)))

contacts_is : IsLawful contacts (λ set. set.0 < 65536)
contacts_is = made_is _ _ (λ set. set.0 < 65536) any_u16_is (λ n is. (is, refl)) (λ set is. (is, refl))

abbrev IsDayFrameOrNone : Option ℕ → Type 0
IsDayFrameOrNone frame = IfSome frame IsDayFrame

-- what was read is the number or none, and is within its range
record IsNumbered (n : ℕ × List ℕ) (x : Option ℕ × List ℕ) : Type 0 where
  number : day_frame_number x.0 ≡ n.0
  rest : n.1 ≡ x.1
  formed : IsDayFrameOrNone x.0

numbered_by : (at : ℕ) (n : ℕ × List ℕ) (x : Option ℕ × List ℕ) (none : Bool) → (none ≡ true → n.0 ≡ no_day_frame)
    → some_or_none at n none ≡ Ok x → IsNumbered n x
numbered_by at n x true is e =
    rw (← ok_is (None, n.1) x e) (record { number = sym (is refl); rest = refl; formed = tt })
numbered_by at n x false is e =
    let b = bind_ok (judged at 0 3599999 n) _ x e in
    let j = judged_is at 0 3599999 n b.0 b.1 in
    subst (λ (y : Option ℕ × List ℕ). IsNumbered n y) (ok_is (Some b.0.0, b.0.1) x b.2)
    (record {
      number = ap (λ (m : ℕ × List ℕ). m.0) (sym j.0);
      rest = ap (λ (m : ℕ × List ℕ). m.1) j.0;
      formed = omega (arith, j.2);
    })

day_frame_or_none_again : (total : ℕ) (frame : Option ℕ) (rest : List ℕ) → IsDayFrameOrNone frame
    → day_frame_or_none.read total (day_frame_or_none.spell frame ++ rest) ≡ Ok (frame, rest)
day_frame_or_none_again total None rest is = rw (long_again no_day_frame rest (omega arith)) refl
day_frame_or_none_again total (Some t) rest is =
    let apart : eqb t no_day_frame ≡ false = ne_eqb _ _ (λ e. omega (arith, e, is)) in
    let small : ltb 3599999 t ≡ false = le-ltb _ _ (omega (arith, is)) in
    let from : ltb t 0 ≡ false = le-ltb _ _ (omega arith) in
    rw (long_again t rest (omega (arith, is)), apart, from, small) refl

goes_none : (more : List ℕ) (at by n : ℕ) (rest : List ℕ) (none : Bool) → at ≡ by
    → Goes more (some_or_none at (n, rest) none) (some_or_none by (n, rest ++ more) none)
goes_none more at by n rest true e = refl
goes_none more at by n rest false e = goes_bind more _ _ _ _ (goes_judged more at by 0 _ n rest e) (λ frame last. refl)

placed_none : (total at n : ℕ) (rest : List ℕ) (none : Bool) → at < total → length rest ≤ total
    → Placed total (some_or_none at (n, rest) none)
placed_none total at n rest true within left = left
placed_none total at n rest false within left =
    placed_bind total _ _ (placed_judged total at 0 3599999 n rest within left) (λ frame last after. after)

placed_day_frame_or_none : (total : ℕ) (bytes : List ℕ) → length bytes ≤ total
    → Placed total (day_frame_or_none.read total bytes)
placed_day_frame_or_none total bytes left =
    placed_wide w32 _ total bytes _ wide32 left (λ within n rest after. placed_none total _ n rest _ within after)

day_frame_or_none_is : IsLawful day_frame_or_none IsDayFrameOrNone
day_frame_or_none_is = record {
  front = λ total bytes x fits e.
      let b = bind_ok (number_at w32 bytes) _ x e in
      let f = long_front bytes b.0 fits b.1 in
      let n = numbered_by _ _ _ _ (λ same. eqb-true b.0.0 no_day_frame same) b.2 in
      let here = subst (λ (m : ℕ). Front bytes (to_be_bytes w32 m) b.0.1) (sym n.number) f.0 in
      (subst (λ (rest : List ℕ). Front bytes (day_frame_or_none.spell x.0) rest) n.rest here, n.formed);
  again = day_frame_or_none_again;
  goes = λ total bytes more. goes_bind more _ _ _ _ (goes_number w32 bytes more)
      (λ n rest. goes_none more _ _ n rest (eqb n no_day_frame) (place_same total bytes more));
  placed = placed_day_frame_or_none;
}

abbrev IsFramesOrNone : Option ℕ → Type 0
IsFramesOrNone frames = IfSome frames IsFrames

some_frames : (n : ℕ) → some_number (suc n) ≡ Some (suc n)
some_frames n = rw (ne_eqb (suc n) 0 (λ e. omega (arith, e))) refl

frames_numbered : (n : ℕ) → n < 65536 → IsFramesOrNone (some_number n) × (frames_number (some_number n) ≡ n)
frames_numbered zero lt = (tt, refl)
frames_numbered (suc n) lt = rw (some_frames n) ((omega arith, lt), refl)

frames_again : (frames : Option ℕ) → IsFramesOrNone frames → (frames_number frames < 65536)
    × (some_number (frames_number frames) ≡ frames)
frames_again None is = (omega arith, refl)
frames_again (Some zero) is = absurd (omega (arith, is.0))
frames_again (Some (suc n)) is = (is.1, some_frames n)

frames_or_none_is : IsLawful frames_or_none IsFramesOrNone
frames_or_none_is = made_is some_number frames_number IsFramesOrNone any_u16_is frames_numbered frames_again

new_sub_is : IsLawful new_sub IsNewSub
unfolding new_sub
new_sub_is =
    made_is _ _ IsNewSub (byte_below 63 then u16_below 1023 (omega arith) then protection_is then any_u16_is)
    (λ x is. (
      record { named = is.0.0.0; start = is.0.0.1; from_one = is.0.1.0; to_four = is.0.1.1; rate = is.1 },
      refl,
    ))
    (λ s is. ((((is.named, is.start), (is.from_one, is.to_four)), is.rate), refl))

new_packet_is : IsLawful new_packet IsNewPacket
unfolding new_packet
new_packet_is =
    made_is _ _ IsNewPacket (u16_below 4095 (omega arith) then flag_is then byte_below 63 then byte_below 63 then
    any_u16_is)
    (λ x is. (record { named = is.0.0.0.0; typed = is.0.0.1; carried = is.0.1; to_last = is.1 }, refl))
    (λ p is. (((((is.named, tt), is.typed), is.carried), is.to_last), refl))

abbrev IsCarrierNumber : ℕ → Type 0
IsCarrierNumber n = (0 ≤ n) × (n ≤ 1)

carrier_kind_is : (n : ℕ) → IsKind (carrier_kind n) (IsCarrierNumber n) (byte_of n) carrier_bytes IsCarrier
carrier_kind_is zero = kind_is (u16_below 63 (omega arith)) (λ known x. refl)
carrier_kind_is (suc zero) = kind_is (u16_below 4095 (omega arith)) (λ known x. refl)
carrier_kind_is (suc (suc more)) = kind_is (u16_below 4095 (omega arith)) (λ known x. absurd (omega (arith, known.1)))

carrier_tagged : (c : Carrier) → IsCarrier c → IsTagged IsCarrierNumber carrier_kind c
carrier_tagged (BySub id) is = record { tag = 0; parts = id; known = (omega arith, omega arith); is = refl }
carrier_tagged (ByPacket id) is = record { tag = 1; parts = id; known = (omega arith, omega arith); is = refl }

carrier_is : IsLawful carrier IsCarrier
unfolding carrier
carrier_is = tagged_is carrier_kind carrier_bytes IsCarrier (byte_is 0 1) carrier_kind_is carrier_tagged

-- ---- instructions

wait_any_is : IsLawful (instr_kind Opcode.WaitAny).format (λ x. IsInstr ((instr_kind Opcode.WaitAny).make x))
wait_any_is =
    adapted _ (contacts_is then contacts_is then day_frame_or_none_is then frames_or_none_is)
    (λ x is. record { closed_within = is.0.0.0; opened_within = is.0.0.1; until_within = is.0.1; frames_within = is.1 })
    (λ x is. (((is.closed_within, is.opened_within), is.until_within), is.frames_within))

set_is : IsLawful (counter ▸ times) (λ x. (x.0 < 8) × (1 ≤ x.1) × (x.1 < 65536))
set_is = adapted _ (byte_below 7 then times_is) (λ x is. (is.0, is.1.0, is.1.1)) (λ x is. (is.0, (is.1, is.2)))

test_time_is : IsLawful (day_frame ▸ day_frame ▸ any_u16) (λ x. IsDayFrame x.0.0 × IsDayFrame x.0.1 × (x.1 < 65536))
test_time_is = adapted _ (day_frame_is then day_frame_is then any_u16_is) (λ x is. (is.0.0, is.0.1, is.1))
    (λ x is. ((is.0, is.1), is.2))

-- every opcode
abbrev IsKnown : Opcode → Type 0
IsKnown o = Unit {0}

abbrev IsInstrKind : Opcode → Type 0
IsInstrKind o = IsKind (instr_kind o) (IsKnown o) (opcode_byte o ∷ []) instr_bytes IsInstr

instr_kind_is : (o : Opcode) → IsInstrKind o
instr_kind_is Opcode.Wait = kind_is times_is (λ known x. refl)
instr_kind_is Opcode.Until = kind_is day_frame_is (λ known x. refl)
instr_kind_is Opcode.WaitContact =
    kind_is (adapted (λ x. x.0 < 16) (byte_below 15 then flag_is) (λ x is. is.0) (λ x is. (is, tt))) (λ known x. refl)
instr_kind_is Opcode.CommitIn = kind_is delay_is (λ known x. refl)
instr_kind_is Opcode.CommitAt = kind_is any_u16_is (λ known x. refl)
instr_kind_is Opcode.Join = kind_is nothing_is (λ known x. refl)
instr_kind_is Opcode.End = kind_is nothing_is (λ known x. refl)
instr_kind_is Opcode.Settle = kind_is nothing_is (λ known x. refl)
instr_kind_is Opcode.WaitAny = kind_is wait_any_is (λ known x. refl)
instr_kind_is Opcode.AddSub = kind_is new_sub_is (λ known x. refl)
instr_kind_is Opcode.DropSub = kind_is (byte_below 63) (λ known x. refl)
instr_kind_is Opcode.MoveSub = kind_is (byte_below 63 then u16_below 1023 (omega arith)) (λ known x. refl)
instr_kind_is Opcode.RateSub = kind_is (byte_below 63 then any_u16_is) (λ known x. refl)
instr_kind_is Opcode.AddService = kind_is sid_is (λ known x. refl)
instr_kind_is Opcode.DropService = kind_is sid_is (λ known x. refl)
instr_kind_is Opcode.AddComponent = kind_is (sid_is then component_is) (λ known x. refl)
instr_kind_is Opcode.DropComponent = kind_is (sid_is then carrier_is) (λ known x. refl)
instr_kind_is Opcode.AddPacket = kind_is new_packet_is (λ known x. refl)
instr_kind_is Opcode.DropPacket = kind_is (u16_below 4095 (omega arith)) (λ known x. refl)
instr_kind_is Opcode.Test = kind_is (byte_below 15 then any_u16_is) (λ known x. refl)
instr_kind_is Opcode.Jump = kind_is any_u16_is (λ known x. refl)
instr_kind_is Opcode.Set = kind_is set_is (λ known x. refl)
instr_kind_is Opcode.Loop = kind_is (byte_below 7 then any_u16_is) (λ known x. refl)
instr_kind_is Opcode.TestTime = kind_is test_time_is (λ known x. refl)

-- the opcode and the operands of an instruction
instr_tagged : (i : Instr) → IsInstr i → IsTagged IsKnown instr_kind i
instr_tagged (Wait n) is = record { tag = Opcode.Wait; parts = n; known = tt; is = refl }
instr_tagged (Until t) is = record { tag = Opcode.Until; parts = t; known = tt; is = refl }
instr_tagged (WaitContact c closed) is = record { tag = Opcode.WaitContact; parts = (c, closed); known = tt; is = refl }
instr_tagged (WaitAny closed opened until frames) is =
    record { tag = Opcode.WaitAny; parts = (((closed, opened), until), frames); known = tt; is = refl }
instr_tagged (CommitIn k) is = record { tag = Opcode.CommitIn; parts = k; known = tt; is = refl }
instr_tagged (CommitAt n) is = record { tag = Opcode.CommitAt; parts = n; known = tt; is = refl }
instr_tagged Join is = record { tag = Opcode.Join; parts = tt; known = tt; is = refl }
instr_tagged Settle is = record { tag = Opcode.Settle; parts = tt; known = tt; is = refl }
instr_tagged End is = record { tag = Opcode.End; parts = tt; known = tt; is = refl }
instr_tagged (Edits (AddSub s)) is = record { tag = Opcode.AddSub; parts = s; known = tt; is = refl }
instr_tagged (Edits (DropSub id)) is = record { tag = Opcode.DropSub; parts = id; known = tt; is = refl }
instr_tagged (Edits (MoveSub id to)) is = record { tag = Opcode.MoveSub; parts = (id, to); known = tt; is = refl }
instr_tagged (Edits (RateSub id kbits)) is = record { tag = Opcode.RateSub; parts = (id, kbits); known = tt; is = refl }
instr_tagged (Edits (AddService s)) is = record { tag = Opcode.AddService; parts = s; known = tt; is = refl }
instr_tagged (Edits (DropService s)) is = record { tag = Opcode.DropService; parts = s; known = tt; is = refl }
instr_tagged (Edits (AddComponent s m)) is = record { tag = Opcode.AddComponent; parts = (s, m); known = tt; is = refl }
instr_tagged (Edits (DropComponent s c)) is =
    record { tag = Opcode.DropComponent; parts = (s, c); known = tt; is = refl }
instr_tagged (Edits (AddPacket p)) is = record { tag = Opcode.AddPacket; parts = p; known = tt; is = refl }
instr_tagged (Edits (DropPacket id)) is = record { tag = Opcode.DropPacket; parts = id; known = tt; is = refl }
instr_tagged (Test c target) is = record { tag = Opcode.Test; parts = (c, target); known = tt; is = refl }
instr_tagged (Jump target) is = record { tag = Opcode.Jump; parts = target; known = tt; is = refl }
instr_tagged (Set r n) is = record { tag = Opcode.Set; parts = (r, n); known = tt; is = refl }
instr_tagged (Loop r target) is = record { tag = Opcode.Loop; parts = (r, target); known = tt; is = refl }
instr_tagged (TestTime from to target) is =
    record { tag = Opcode.TestTime; parts = ((from, to), target); known = tt; is = refl }

-- the opcode of a byte, or a fault at its offset
goes_known : (more rest : List ℕ) (o : Option Opcode) (at by : ℕ) → at ≡ by
    → Goes more (ok_or o (Field at) >>= λ k. taken (k, rest)) (ok_or o (Field by) >>= λ k. taken (k, rest ++ more))
goes_known more rest None at by e = goes_fault Opcode more (Field at) (Field by) (ap Field e)
goes_known more rest (Some o) at by e = refl

placed_known : (total : ℕ) (rest : List ℕ) (o : Option Opcode) (at : ℕ) → at < total → length rest ≤ total
    → Placed total (ok_or o (Field at) >>= λ k. taken (k, rest))
placed_known total rest None at within left = within
placed_known total rest (Some o) at within left = left

placed_opcode : (total : ℕ) (bytes : List ℕ) → length bytes ≤ total → Placed total (opcode.read total bytes)
placed_opcode total [] left = tt
placed_opcode total (b ∷ rest) left = placed_known _ _ _ _ (omega (arith, left)) (omega (arith, left))

opcode_is : IsLawful opcode IsKnown
opcode_is = record {
  front = λ total bytes x fits e.
      let b = bind_ok (byte_at bytes) _ x e in
      let fb = byte_front bytes b.0 fits b.1 in
      let o = bind_ok (ok_or (opcode_of b.0.0) (Field (place total bytes))) _ x b.2 in
      let is : b.0.0 ≡ opcode_byte o.0 = opcode_only b.0.0 o.0 (some_given (opcode_of b.0.0) _ o.0 o.1) in
      let here : Front bytes (opcode_byte o.0 ∷ []) b.0.1 = subst (λ (n : ℕ). Front bytes (n ∷ []) b.0.1) is fb in
      let found : Opcode × List ℕ = (o.0, b.0.1) in
      subst (λ (y : Opcode × List ℕ). Front bytes (opcode_byte y.0 ∷ []) y.1 × Unit {0}) (ok_is found x o.2) (here, tt);
  again = λ total o rest is. rw (opcode_again o) refl;
  goes = λ total bytes more. goes_bind more _ _ _ _ (goes_byte bytes more)
      (λ byte rest. goes_known more rest (opcode_of byte) _ _ (place_same total bytes more));
  placed = placed_opcode;
}

instr_is : IsLawful instr IsInstr
unfolding instr
instr_is = tagged_is instr_kind instr_bytes IsInstr opcode_is instr_kind_is instr_tagged

pub line_is : IsLawful line IsLine
unfolding line
line_is =
    made_is _ _ IsLine (any_u16_is then instr_is)
    (λ x is. (record { numbered = is.0; formed = is.1 }, refl)) (λ l is. ((is.numbered, is.formed), refl))
