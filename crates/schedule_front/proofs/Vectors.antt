-- Short schedules that have the same tokens, and some that have not; what is read and what is not.
use Rattle.schedule_front.proofs.Words.{[], ◌++◌, ◌∷◌, ◌≡◌, Contact, IsCondition}
use Rattle.schedule_front.proofs.Words.{IsTest, List, None, Overlay, Plan, Some, Test, Time}
use Rattle.schedule_front.proofs.Words.{Tree, arith, condition_lexemes, line}
use Rattle.schedule_front.proofs.Words.{not_after, other_next, overlays_lines, refl, statement_found, test_lexemes}
use Rattle.schedule_front.proofs.Words.{tree_lexemes, true, false, ℕ, decimal, closing}
use Rattle.schedule_front.proofs.Words.{All, IsName, IsOverlay, IsPlan, IsSchedule, IsScheduleOf, ◌-◌, ◌<◌, ◌≢◌, ◌≤◌}
use Rattle.schedule_front.proofs.Words.{ap}
use Rattle.schedule_front.proofs.Words.{counted, suc, values_are_read, zero}
use Rattle.std.proofs.Common.{replicate}
use Rattle.script_tokens.specs.Keywords.{word_of, letters}
use Rattle.script_tokens.specs.Reading.{after, is_next}
use Rattle.script_tokens.specs.Taking.{name_next}
use Rattle.script_front.specs.Readers.{header_at}
use Rattle.schedule_front.specs.Alike.{Said}
use Rattle.schedule_front.specs.Readers.{schedule_at}
use Rattle.schedule_front.proofs.ReadingSchedules.{schedule_found, schedules_alike, one_schedule}
use Rattle.mux_config.specs.declared.edit.Edit.TheVariants.{RateSub}
use Rattle.fib_codec.specs.declared.frame_layout.FrameLayout.TheVariants.{Whole}
use Rattle.fib_codec.specs.declared.modes.Mode.TheVariants.{I}
use Rattle.script_tokens.specs.declared.keyword.Keyword.TheVariants as the
use Rattle.script_tokens.specs.declared.first_keyword.EditKeyword.TheVariants as edit
use Rattle.schedule_front.specs.Readers.{condition_at, first_edit, overlay_at, overlays_at}
use Rattle.schedule_front.proofs.ReadingTests.{condition_found}

-- `contact 3 closed and time 22:00:00 to 06:00:00 or contact 4 open`
abbrev either_of : List (List Test)
either_of = (Contact 3 true ∷ Time 79200 21600 ∷ []) ∷ (Contact 4 false ∷ []) ∷ []

either_is : IsCondition either_of
either_is = record {
  some = omega arith;
  each = ((omega arith, (omega arith, ((omega arith, omega arith), tt))), ((omega arith, (omega arith, tt)), tt));
  few = omega arith;
}

-- it is read, with the brace behind it; a brace is no condition
either_is_read : condition_at (condition_lexemes either_of ++ letters the.OpenBrace ∷ [])
    ≡ Some (either_of, letters the.OpenBrace ∷ [])
either_is_read = condition_found either_of (letters the.OpenBrace ∷ []) either_is
    (other_next the.OpenBrace the.And [] (λ e. cc), other_next the.OpenBrace the.Or [] (λ e. cc))

-- no alternative at all is too few, one without tests too, and 33 tests are too many
none_is_not : IsCondition [] → ⊥
none_is_not h = let s = h.some in omega (arith, s)

empty_is_not : IsCondition ([] ∷ []) → ⊥
empty_is_not h = let s = h.each.0.0 in omega (arith, s)

-- contact 16 is none, and neither is 24:00:00 a time
sixteen_is_not : IsTest (Contact 16 true) → ⊥
sixteen_is_not h = omega (arith, h)

midnight_is_not : IsTest (Time 0 86400) → ⊥
midnight_is_not h = let t = h.1 in omega (arith, t)

many_are_not : IsCondition (replicate 33 (Contact 3 true) ∷ []) → ⊥
many_are_not h = let f : 33 ≤ 32 = h.few in omega (arith, f)

-- `ensemble E1C5 period 4 notice 24 budget 20`
abbrev headed : Plan
headed = record { eid = 57797; layout = Whole I; period = 4; notice = 24; budget = 20 }

headed_is : IsPlan headed
headed_is = record {
  ensemble = omega arith;
  period_from = omega arith;
  period_to = omega arith;
  notice_from = omega arith;
  notice_to = omega arith;
  budget_from = omega arith;
  budget_to = omega arith;
}

-- `overlay a while contact C closed { rate sub 1 96 }` in this line
abbrev low : (contact line : ℕ) → Overlay
low contact line = record {
  line = line;
  condition = (Contact contact true ∷ []) ∷ [];
  edits = record { line = line; edit = RateSub 1 96 } ∷ [];
}

low_is : (contact line : ℕ) → contact < 16 → IsOverlay (low contact line)
low_is contact line lt = record {
  condition = record { some = omega arith; each = ((omega arith, (lt, tt)), tt); few = omega arith };
  edits = ((omega arith, omega arith), tt);
}

a_is_read : name_next ((97 ∷ []) ∷ []) ≡ Some (97 ∷ [], [])
unfolding name_next letters word_of
a_is_read = refl

named : All IsName ((97 ∷ []) ∷ [])
named zero d lt = (values_are_read.names.given ((97 ∷ []) ∷ []) (97 ∷ [], []) a_is_read).0
named (suc k) d lt = absurd (omega (arith, lt))

-- the header, `schedule` in the line before, and the overlay
abbrev with_low : (contact line : ℕ) → Tree
with_low contact line = record {
  header = headed;
  items = [];
  line = line - 1;
  names = (97 ∷ []) ∷ [];
  overlays = low contact line ∷ [];
  last_line = line;
}

with_low_is : (contact line : ℕ) → contact < 16 → IsSchedule (with_low contact line)
with_low_is contact line lt = record {
  headed = headed_is;
  adding = λ k d within. absurd (omega (arith, within));
  named = named;
  different = λ i j d less within. absurd (omega (arith, less, within));
  each_named = refl;
  few_overlays = omega arith;
  each = (low_is contact line lt, tt);
  few = omega arith;
}

-- two overlays of one name are no schedule
abbrev twice : Tree
twice = record {
  header = headed;
  items = [];
  line = 2;
  names = (97 ∷ []) ∷ (97 ∷ []) ∷ [];
  overlays = low 3 3 ∷ low 4 4 ∷ [];
  last_line = 4;
}

twice_is_not : IsSchedule twice → ⊥
twice_is_not h = h.different 0 1 [] (omega arith) (omega arith) refl

-- an overlay and its edit count two
counted_as_two : counted (low 3 3 ∷ []) ≡ 2
counted_as_two = refl

-- lines do not change the tokens
on_other_lines : tree_lexemes (with_low 3 3) ≡ tree_lexemes (with_low 3 4)
on_other_lines = refl

-- another contact does
abbrev first_in : List (List Test) → ℕ
first_in ((Contact contact closed ∷ tests) ∷ others) = contact
first_in _ = 0

abbrev contact_of : List Said → ℕ
contact_of [] = 0
contact_of (s ∷ ss) = first_in s.condition

of_other_contacts : tree_lexemes (with_low 3 3) ≢ tree_lexemes (with_low 4 3)
of_other_contacts e =
    let a = schedules_alike (with_low 3 3) (with_low 4 3) (with_low_is 3 3 (omega arith))
    (with_low_is 4 3 (omega arith)) e in
    let c : 3 ≡ 4 = ap contact_of a.overlays in omega (arith, c)

-- a schedule is read, and nothing is none
schedule_is_read : schedule_at (record { lexemes = tree_lexemes (with_low 3 0); lines = [] }) ≡ Some (with_low 3 0)
schedule_is_read = schedule_found _ (with_low 3 0) (with_low_is 3 0 (omega arith))
    (record {
      spells = refl;
      lined = record { items = tt; schedule = refl; overlays = (refl, (refl, tt), tt); last = refl };
    })

nothing_is_read : schedule_at (record { lexemes = []; lines = [] }) ≡ None
unfolding schedule_at header_at after is_next
nothing_is_read = refl

-- no text is that of the same schedule on two different lines
on_one_line : (text : List ℕ) → IsScheduleOf text (with_low 3 3) → IsScheduleOf text (with_low 3 4) → ⊥
on_one_line text d e =
    let same = one_schedule text (with_low 3 3) (with_low 3 4) (with_low_is 3 3 (omega arith))
    (with_low_is 3 4 (omega arith)) d e in
    let line : 3 ≡ 4 = ap (λ (t : Tree). t.last_line) same in omega (arith, line)

-- printed lines
low_is_printed : overlays_lines ((97 ∷ []) ∷ []) (low 3 3 ∷ [])
    ≡ line 0 (letters the.Overlay ∷ (97 ∷ []) ∷ letters the.While ∷ (test_lexemes (Contact 3 true)
    ++ letters the.OpenBrace ∷ [])) ∷ line 1 (letters the.Rate ∷ letters the.Sub ∷ decimal 1 ∷ decimal 96 ∷ [])
    ∷ closing 0 ∷ []
low_is_printed = refl

-- an overlay's word begins no edit, `rate` begins one
no_edit_begins : first_edit (letters the.Wait ∷ []) ≡ None
unfolding first_edit
no_edit_begins = rw (statement_found the.Wait []) refl

an_edit_begins : first_edit (letters the.Rate ∷ []) ≡ Some edit.Rate
unfolding first_edit
an_edit_begins = rw (statement_found the.Rate []) refl

-- no overlay at all is read at the end, and `begin` is no overlay
none_are_read : overlays_at 64 [] [] 5 [] ≡ Some (record { names = []; overlays = [] })
unfolding overlays_at
none_are_read = refl

begin_is_no_overlay : overlays_at 64 [] [] 5 (letters the.Begin ∷ []) ≡ None
unfolding overlays_at overlay_at
begin_is_no_overlay = rw (not_after the.Begin the.Overlay [] (λ e. cc)) refl
