-- The warnings that are listed are those that are warranted.
use Rattle.std.proofs.Common.{◌≡◌, ◌↔◌, ℕ, zero, suc, Bool, true, false, if◌then◌else◌, inl, inr, List, [], ◌∷◌, ◌++◌}
use Rattle.std.proofs.Common.{map, Contains, slice_get, Option, Some, None, refl, sym, ap, subst}
use Rattle.std.specs.Prelude.{Result, Ok, Err, IfOk}
use Rattle.std.specs.List.{flat_map}
use Rattle.std.proofs.lemmas.List.Elements.{Contains-append_left, Contains-append_right, Contains-append_cases}
use Rattle.mux_types.proofs.Elements.{contains_first, contains_none}
use Rattle.mux_types.specs.Configuration.{Configuration, nothing}
use Rattle.plan_code.specs.declared.instr.Line.{Line}
use Rattle.plan_code.specs.Program.{Program}
use Rattle.plan_verifier.specs.Rules.{commits}
use Rattle.plan_verifier.specs.Typing.{Known, IsTyping, IsTyped}
use Rattle.script_front.specs.Tree.{Tree}
use Rattle.plan_explain.specs.declared.flaw.Flaw.{Flaw}
use Rattle.plan_explain.specs.declared.primary.Primary.{Primary}
use Rattle.plan_explain.specs.declared.beginning.FirstWait.{FirstWait}
use Rattle.plan_explain.specs.declared.warning.Warning.{Warning}
use Rattle.plan_explain.specs.declared.warning.Warning.TheVariants.{Flawed, OtherPrimary, WaitsForTime, Unreached, Late}
use Rattle.plan_explain.specs.declared.warning.Warning.TheVariants.{NextDay, Trapped}
use Rattle.plan_explain.specs.Flaws.{HasFlaw, flaws, is_among, unless_among}
use Rattle.plan_explain.specs.Primaries.{IsOtherPrimary, primaries}
use Rattle.plan_explain.specs.Beginnings.{first_wait}
use Rattle.plan_explain.specs.Blocks.{unreached}
use Rattle.plan_explain.specs.DayTraps.{traps}
use Rattle.plan_explain.specs.Straight.{straight_warnings}
use Rattle.plan_explain.specs.Repeats.{AreApart, AreEachOnce}
use Rattle.plan_explain.specs.ConfigurationChanges.{between, at_instr, at_commits, at_opening}
use Rattle.plan_explain.specs.Listed.{at_wait, warnings}
use Rattle.plan_explain.specs.Warnings.{IsFirstOnAir, IsCommit, Comes, IsNewFlaw, IsWarranted}
use Rattle.plan_explain.proofs.Lists.{from_flat, to_flat, from_map, to_map, from_one}
use Rattle.plan_explain.proofs.FlawLaws.{has_flaw, flaw_listed, is_new, new_listed}
use Rattle.plan_explain.proofs.PrimaryLaws.{is_other, other_listed}
use Rattle.plan_explain.proofs.BeginningLaws.{waits_first, is_found}
use Rattle.plan_explain.proofs.BlockLaws.{is_unreached, unreached_listed}
use Rattle.plan_explain.proofs.LateLaws.{has_late, late_listed}
use Rattle.plan_explain.proofs.DayLaws.{has_day, day_listed}
use Rattle.plan_explain.proofs.TrapLaws.{is_trap, trap_listed}
use Rattle.plan_explain.proofs.StraightLaws.{only_straight}

-- ---- one configuration in the place of another

module _ (script : Tree) (code : Program) (line : ℕ) (before after : Configuration) where
  flaw_warranted : (f : Flaw) → Comes script code line before after
      → Contains (flat_map (unless_among (flaws before)) (flaws after)) f → IsNewFlaw script code line f
  flaw_warranted f comes h =
      let from = from_flat (unless_among (flaws before)) (flaws after) f h in
      let new = is_new (flaws before) from.source f (is_among (flaws before) from.source) refl from.has in
      let there : Contains (flaws after) f = subst (λ (x : Flaw). Contains (flaws after) x) new.0 from.there in
      record {
        before = before;
        after = after;
        comes = comes;
        has = has_flaw after f there;
        had_not = λ had. new.1 (flaw_listed before f had);
      }

  pub between_warranted : (w : Warning) → Comes script code line before after → Contains (between line before after) w
      → IsWarranted script code w
  between_warranted w comes h =
      elim (Contains-append_cases (map (Flawed line) (flat_map (unless_among (flaws before)) (flaws after)))
      (map (OtherPrimary line) (primaries before after)) w h) [
        | inl one ↦ (
            let from = from_map (Flawed line) (flat_map (unless_among (flaws before)) (flaws after)) w one in
            subst (λ (x : Warning). IsWarranted script code x) from.is (flaw_warranted from.source comes from.there))
        | inr other ↦ (
            let from = from_map (OtherPrimary line) (primaries before after) w other in
            subst (λ (x : Warning). IsWarranted script code x) from.is
            (record {
              before = before;
              after = after;
              comes = comes;
              other = is_other before after from.source from.there;
            }))
      ]

flaw_between : (line : ℕ) (before after : Configuration) (f : Flaw) → HasFlaw after f → (HasFlaw before f → ⊥)
    → Contains (between line before after) (Flawed line f)
flaw_between line before after f has had_not =
    let at : Contains (unless_among (flaws before) f) f =
    new_listed (flaws before) f (is_among (flaws before) f) refl (λ there. had_not (has_flaw before f there)) in
    let listed = to_flat (unless_among (flaws before)) (flaws after) f f (flaw_listed after f has) at in
    Contains-append_left (map (Flawed line) (flat_map (unless_among (flaws before)) (flaws after)))
    (map (OtherPrimary line) (primaries before after)) (Flawed line f) (to_map (Flawed line) _ f listed)

primary_between : (line : ℕ) (before after : Configuration) (p : Primary) → IsOtherPrimary before after p
    → Contains (between line before after) (OtherPrimary line p)
primary_between line before after p other =
    Contains-append_right (map (Flawed line) (flat_map (unless_among (flaws before)) (flaws after)))
    (map (OtherPrimary line) (primaries before after)) (OtherPrimary line p)
    (to_map (OtherPrimary line) _ p (other_listed before after p other))

-- ---- the commits of a code

pub record IsOfCommit (ls : List Line) (ts : List Known) (w : Warning) : Type 0 where
  pub pc : ℕ
  pub instr : Line
  pub known : Known
  pub there : slice_get ls pc ≡ Some instr
  pub at : slice_get ts pc ≡ Some known
  pub has : Contains (at_instr instr known) w

commit_later : (l : Line) (t : Known) (ls : List Line) (ts : List Known) (w : Warning) → IsOfCommit ls ts w
    → IsOfCommit (l ∷ ls) (t ∷ ts) w
commit_later l t ls ts w h = record {
  pc = suc h.pc;
  instr = h.instr;
  known = h.known;
  there = h.there;
  at = h.at;
  has = h.has;
}

of_commit : (ls : List Line) (ts : List Known) (w : Warning) → Contains (at_commits ls ts) w → IsOfCommit ls ts w
of_commit [] ts w h = absurd (contains_none w h)
of_commit (l ∷ ls) [] w h = absurd (contains_none w h)
of_commit (l ∷ ls) (t ∷ ts) w h =
    elim (Contains-append_cases (at_instr l t) (at_commits ls ts) w h) [
      | inl here ↦ record { pc = 0; instr = l; known = t; there = refl; at = refl; has = here }
      | inr later ↦ commit_later l t ls ts w (of_commit ls ts w later)
    ]

some_same : {A : Type 0} (x y : A) → Some x ≡ Some y → x ≡ y
some_same x y e = cc

commit_listed : (ls : List Line) (ts : List Known) (pc : ℕ) (l : Line) (t : Known) (w : Warning)
    → slice_get ls pc ≡ Some l → slice_get ts pc ≡ Some t → Contains (at_instr l t) w → Contains (at_commits ls ts) w
commit_listed [] ts pc l t w there at h = absurd cc
commit_listed (k ∷ ls) [] pc l t w there at h = absurd cc
commit_listed (k ∷ ls) (u ∷ ts) zero l t w there at h =
    let one : k ≡ l = some_same k l there in
    let other : u ≡ t = some_same u t at in
    let half : Contains (at_instr k t) w = subst (λ (x : Line). Contains (at_instr x t) w) (sym one) h in
    let whole : Contains (at_instr k u) w = subst (λ (x : Known). Contains (at_instr k x) w) (sym other) half in
    Contains-append_left (at_instr k u) (at_commits ls ts) w whole
commit_listed (k ∷ ls) (u ∷ ts) (suc pc) l t w there at h =
    Contains-append_right (at_instr k u) (at_commits ls ts) w (commit_listed ls ts pc l t w there at h)

instr_warranted : (script : Tree) (code : Program) (typing : List Known) (pc : ℕ) (l : Line) (t : Known) (w : Warning)
    (b : Bool) → IsTyping code typing → slice_get code.lines pc ≡ Some l → slice_get typing pc ≡ Some t
    → commits l.instr ≡ b → Contains (if b then between l.number t.current t.next else []) w → IsWarranted script code w
instr_warranted script code typing pc l t w true h there at e has =
    let comes : IsCommit code l.number t.current t.next =
    record {
      typing = typing;
      is = h;
      pc = pc;
      instr = l;
      known = t;
      there = there;
      at = at;
      commits = e;
      from = refl;
      was = refl;
      is_next = refl;
    } in
    between_warranted script code l.number t.current t.next w (inr comes) has
instr_warranted script code typing pc l t w false h there at e has = absurd (contains_none w has)

-- ---- all of them

opening_warranted : (script : Tree) (code : Program) (typing : List Known) (ts : List Known) (w : Warning)
    → IsTyping code typing → typing ≡ ts → Contains (at_opening script.begin_line ts) w → IsWarranted script code w
opening_warranted script code typing [] w h e has = absurd (contains_none w has)
opening_warranted script code typing (t ∷ ts) w h e has =
    let there : slice_get typing 0 ≡ Some t = ap (λ (xs : List Known). slice_get xs 0) e in
    let opening : IsFirstOnAir code t.current =
    record { typing = typing; is = h; known = t; there = there; same = refl } in
    between_warranted script code script.begin_line nothing t.current w (inl (refl, refl, opening)) has

wait_warranted : (script : Tree) (code : Program) (o : Option FirstWait) (w : Warning) → first_wait code.lines ≡ o
    → Contains (at_wait o) w → IsWarranted script code w
wait_warranted script code None w e has = absurd (contains_none w has)
wait_warranted script code (Some f) w e has =
    subst (λ (x : Warning). IsWarranted script code x) (from_one (WaitsForTime f) w has) (waits_first code.lines f e)

unreached_warranted : (script : Tree) (code : Program) (w : Warning)
    → Contains (map Unreached (unreached code.lines script.blocks)) w → IsWarranted script code w
unreached_warranted script code w has =
    let from = from_map Unreached (unreached code.lines script.blocks) w has in
    subst (λ (x : Warning). IsWarranted script code x) from.is
    (is_unreached code.lines script.blocks from.source from.there)

straight_warranted : (script : Tree) (code : Program) (w : Warning) → Contains (straight_warnings script) w
    → IsWarranted script code w
straight_warranted script code (Late u) has = has_late script u has
straight_warranted script code (NextDay d) has = has_day script d has
straight_warranted script code (Flawed line f) has =
    absurd (only_straight script (Flawed line f) (λ no. no) (λ no. no) has)
straight_warranted script code (OtherPrimary line p) has =
    absurd (only_straight script (OtherPrimary line p) (λ no. no) (λ no. no) has)
straight_warranted script code (WaitsForTime f) has =
    absurd (only_straight script (WaitsForTime f) (λ no. no) (λ no. no) has)
straight_warranted script code (Unreached line) has =
    absurd (only_straight script (Unreached line) (λ no. no) (λ no. no) has)
straight_warranted script code (Trapped t) has =
    absurd (only_straight script (Trapped t) (λ no. no) (λ no. no) has)

trap_warranted : (script : Tree) (code : Program) (w : Warning) → Contains (traps code.lines) w
    → IsWarranted script code w
trap_warranted script code w has =
    let of = is_trap code.lines w has in
    subst (λ (x : Warning). IsWarranted script code x) of.is of.has

-- all but the last two, and all but the last
abbrev first_ones : Tree → Program → List Known → List Warning
first_ones script code typing =
    (at_opening script.begin_line typing ++ at_commits code.lines typing)
    ++ at_wait (first_wait code.lines)
    ++ map Unreached (unreached code.lines script.blocks)

abbrev earlier : Tree → Program → List Known → List Warning
earlier script code typing = first_ones script code typing ++ traps code.lines

first_warranted : (script : Tree) (code : Program) (typing : List Known) (w : Warning) → IsTyping code typing
    → Contains (first_ones script code typing) w → IsWarranted script code w
first_warranted script code typing w h has =
    elim (Contains-append_cases ((at_opening script.begin_line typing ++ at_commits code.lines typing)
    ++ at_wait (first_wait code.lines)) (map Unreached (unreached code.lines script.blocks)) w has) [
      | inl most ↦ elim (Contains-append_cases (at_opening script.begin_line typing ++ at_commits code.lines typing)
          (at_wait (first_wait code.lines)) w most) [
            | inl one ↦ elim (Contains-append_cases (at_opening script.begin_line typing) (at_commits code.lines typing)
                w
                one) [
                  | inl opening ↦ opening_warranted script code typing typing w h refl opening
                  | inr commit ↦ (
                      let of = of_commit code.lines typing w commit in
                      instr_warranted script code typing of.pc of.instr of.known w (commits of.instr.instr) h of.there
                      of.at
                      refl of.has)
                ]
            | inr wait ↦ wait_warranted script code (first_wait code.lines) w refl wait
          ]
      | inr block ↦ unreached_warranted script code w block
    ]

earlier_warranted : (script : Tree) (code : Program) (typing : List Known) (w : Warning) → IsTyping code typing
    → Contains (earlier script code typing) w → IsWarranted script code w
earlier_warranted script code typing w h has =
    elim (Contains-append_cases (first_ones script code typing) (traps code.lines) w has) [
      | inl first ↦ first_warranted script code typing w h first
      | inr trap ↦ trap_warranted script code w trap
    ]

warranted_in : (script : Tree) (code : Program) (typing : List Known) (w : Warning) → IsTyping code typing
    → Contains (warnings script code typing) w → IsWarranted script code w
warranted_in script code typing w h has =
    elim (Contains-append_cases (earlier script code typing) (straight_warnings script) w has) [
      | inl most ↦ earlier_warranted script code typing w h most
      | inr straight ↦ straight_warranted script code w straight
    ]

-- ---- and back

module _ (script : Tree) (code : Program) (w : Warning) where
  in_earlier : (typing : List Known) → Contains (earlier script code typing) w
      → Contains (warnings script code typing) w
  in_earlier typing h = Contains-append_left (earlier script code typing) (straight_warnings script) w h

  in_first : (typing : List Known) → Contains (first_ones script code typing) w
      → Contains (warnings script code typing) w
  in_first typing h = in_earlier typing
      (Contains-append_left (first_ones script code typing) (traps code.lines) w h)

  in_traps : (typing : List Known) → Contains (traps code.lines) w → Contains (warnings script code typing) w
  in_traps typing h = in_earlier typing
      (Contains-append_right (first_ones script code typing) (traps code.lines) w h)

  in_configurations : (typing : List Known) → Contains
      (at_opening script.begin_line typing ++ at_commits code.lines typing) w → Contains (warnings script code typing) w
  in_configurations typing h =
      in_first typing (Contains-append_left ((at_opening script.begin_line typing ++ at_commits code.lines typing)
      ++ at_wait (first_wait code.lines)) (map Unreached (unreached code.lines script.blocks)) w
      (Contains-append_left (at_opening script.begin_line typing ++ at_commits code.lines typing)
      (at_wait (first_wait code.lines)) w h))

  in_opening : (typing : List Known) → Contains (at_opening script.begin_line typing) w
      → Contains (warnings script code typing) w
  in_opening typing h = in_configurations typing
      (Contains-append_left (at_opening script.begin_line typing) (at_commits code.lines typing) w h)

  in_commits : (typing : List Known) → Contains (at_commits code.lines typing) w
      → Contains (warnings script code typing) w
  in_commits typing h = in_configurations typing
      (Contains-append_right (at_opening script.begin_line typing) (at_commits code.lines typing) w h)

  in_waits : (typing : List Known) → Contains (at_wait (first_wait code.lines)) w
      → Contains (warnings script code typing) w
  in_waits typing h =
      in_first typing (Contains-append_left ((at_opening script.begin_line typing ++ at_commits code.lines typing)
      ++ at_wait (first_wait code.lines)) (map Unreached (unreached code.lines script.blocks)) w
      (Contains-append_right (at_opening script.begin_line typing ++ at_commits code.lines typing)
      (at_wait (first_wait code.lines)) w h))

  in_blocks : (typing : List Known) → Contains (map Unreached (unreached code.lines script.blocks)) w
      → Contains (warnings script code typing) w
  in_blocks typing h =
      in_first typing (Contains-append_right ((at_opening script.begin_line typing ++ at_commits code.lines typing)
      ++ at_wait (first_wait code.lines)) (map Unreached (unreached code.lines script.blocks)) w h)

  in_straight : (typing : List Known) → Contains (straight_warnings script) w → Contains (warnings script code typing) w
  in_straight typing h = Contains-append_right (earlier script code typing) (straight_warnings script) w h

opening_listed : (begin : ℕ) (typing : List Known) (t : Known) (w : Warning) → slice_get typing 0 ≡ Some t
    → Contains (between begin nothing t.current) w → Contains (at_opening begin typing) w
opening_listed begin [] t w there has = absurd cc
opening_listed begin (u ∷ ts) t w there has =
    let same : u ≡ t = some_same u t there in
    subst (λ (x : Known). Contains (between begin nothing x.current) w) (sym same) has

-- the warnings of this list are those of every typing
abbrev Lists : Tree → Program → List Warning → Type 0
Lists script code ws = (typing : List Known) → IsTyping code typing → ws ≡ warnings script code typing

listed_of_opening : (script : Tree) (code : Program) (ws : List Warning) (w : Warning) (line : ℕ)
    (before after : Configuration) → Lists script code ws → line ≡ script.begin_line → before ≡ nothing
    → IsFirstOnAir code after
    → Contains (between line before after) w → Contains ws w
listed_of_opening script code ws w line before after lists at was opening has =
    let first : Contains (between script.begin_line before after) w =
    subst (λ n. Contains (between n before after) w) at has in
    let second : Contains (between script.begin_line nothing after) w =
    subst (λ (c : Configuration). Contains (between script.begin_line c after) w) was first in
    let third : Contains (between script.begin_line nothing opening.known.current) w =
    subst (λ (c : Configuration). Contains (between script.begin_line nothing c) w) opening.same second in
    let whole = in_opening script code w opening.typing
    (opening_listed script.begin_line opening.typing opening.known w opening.there third) in
    subst (λ (xs : List Warning). Contains xs w) (sym (lists opening.typing opening.is)) whole

listed_of_commit : (script : Tree) (code : Program) (ws : List Warning) (w : Warning) (line : ℕ)
    (before after : Configuration) → Lists script code ws → IsCommit code line before after
    → Contains (between line before after) w → Contains ws w
listed_of_commit script code ws w line before after lists c has =
    let first : Contains (between c.instr.number before after) w =
    subst (λ n. Contains (between n before after) w) (sym c.from) has in
    let second : Contains (between c.instr.number c.known.current after) w =
    subst (λ (x : Configuration). Contains (between c.instr.number x after) w) c.was first in
    let third : Contains (between c.instr.number c.known.current c.known.next) w =
    subst (λ (x : Configuration). Contains (between c.instr.number c.known.current x) w) c.is_next second in
    let at : Contains (at_instr c.instr c.known) w =
    subst (λ (b : Bool). Contains (if b then between c.instr.number c.known.current c.known.next else []) w)
    (sym c.commits) third in
    let whole = in_commits script code w c.typing
    (commit_listed code.lines c.typing c.pc c.instr c.known w c.there c.at at) in
    subst (λ (xs : List Warning). Contains xs w) (sym (lists c.typing c.is)) whole

listed_of : (script : Tree) (code : Program) (ws : List Warning) (w : Warning) (line : ℕ) (before after : Configuration)
    → Lists script code ws → Comes script code line before after → Contains (between line before after) w
    → Contains ws w
listed_of script code ws w line before after lists (inl opening) has =
    listed_of_opening script code ws w line before after lists opening.0 opening.1 opening.2 has
listed_of script code ws w line before after lists (inr commit) has =
    listed_of_commit script code ws w line before after lists commit has

listed : (script : Tree) (code : Program) (ws : List Warning) (typed : IsTyped code) → Lists script code ws
    → (w : Warning) → IsWarranted script code w → Contains ws w
listed script code ws typed lists (Flawed line f) h =
    listed_of script code ws (Flawed line f) line h.before h.after lists h.comes
    (flaw_between line h.before h.after f h.has h.had_not)
listed script code ws typed lists (OtherPrimary line p) h =
    listed_of script code ws (OtherPrimary line p) line h.before h.after lists h.comes
    (primary_between line h.before h.after p h.other)
listed script code ws typed lists (WaitsForTime f) h =
    let at : Contains (at_wait (first_wait code.lines)) (WaitsForTime f) =
    subst (λ (o : Option FirstWait). Contains (at_wait o) (WaitsForTime f)) (sym (is_found code.lines f h))
    (contains_first (WaitsForTime f) []) in
    subst (λ (xs : List Warning). Contains xs (WaitsForTime f)) (sym (lists typed.0 typed.1))
    (in_waits script code (WaitsForTime f) typed.0 at)
listed script code ws typed lists (Unreached line) h =
    let at = to_map Unreached (unreached code.lines script.blocks) line
    (unreached_listed code.lines script.blocks line h) in
    subst (λ (xs : List Warning). Contains xs (Unreached line)) (sym (lists typed.0 typed.1))
    (in_blocks script code (Unreached line) typed.0 at)
listed script code ws typed lists (Late u) h =
    subst (λ (xs : List Warning). Contains xs (Late u)) (sym (lists typed.0 typed.1))
    (in_straight script code (Late u) typed.0 (late_listed script u h))
listed script code ws typed lists (NextDay d) h =
    subst (λ (xs : List Warning). Contains xs (NextDay d)) (sym (lists typed.0 typed.1))
    (in_straight script code (NextDay d) typed.0 (day_listed script d h))
listed script code ws typed lists (Trapped t) h =
    subst (λ (xs : List Warning). Contains xs (Trapped t)) (sym (lists typed.0 typed.1))
    (in_traps script code (Trapped t) typed.0 (trap_listed code.lines t h))

pub warranted : (script : Tree) (code : Program) (ws : List Warning) → IsTyped code
    → ((typing : List Known) → IsTyping code typing → ws ≡ warnings script code typing) → (w : Warning) → Contains ws w
    ↔ IsWarranted script code w
warranted script code ws typed lists w = (
  λ has. warranted_in script code typed.0 w typed.1
      (subst (λ (xs : List Warning). Contains xs w) (lists typed.0 typed.1) has),
  λ h. listed script code ws typed lists w h,
)

-- the same of those that are kept, each once, by a call that may fail
pub if_warranted : {V F : Type 0} (items : V → List Warning) (r : Result V F) (script : Tree) (code : Program)
    (ws : List Warning) → IsTyped code
    → ((typing : List Known) → IsTyping code typing → ws ≡ warnings script code typing)
    → IfOk r (λ v. AreEachOnce ws (items v))
    → IfOk r (λ v. (w : Warning) → Contains (items v) w ↔ IsWarranted script code w)
if_warranted items (Ok v) script code ws typed lists once =
    λ w. (
      λ there. (warranted script code ws typed lists w).0 ((once.same w).0 there),
      λ is. (once.same w).1 ((warranted script code ws typed lists w).1 is),
    )
if_warranted items (Err e) script code ws typed lists once = tt

pub if_apart : {V F : Type 0} (items : V → List Warning) (r : Result V F) (ws : List Warning)
    → IfOk r (λ v. AreEachOnce ws (items v)) → IfOk r (λ v. AreApart (items v))
if_apart items (Ok v) ws once = once.apart
if_apart items (Err e) ws once = tt
