-- The reading of overlays: what is read is spelled so, on its lines, and what is spelled so is read.
use Rattle.schedule_front.proofs.Words.{[], ◌++◌, ◌+◌, ◌-◌, ◌<◌, ◌∙◌, ◌∷◌, ◌≡◌, ◌≢◌, ◌≤◌, All, All-push}
use Rattle.schedule_front.proofs.Words.{AllByRecursion, AreNamedApart, EditsOn, HasOneMore, Input, IsName, IsOverlay}
use Rattle.schedule_front.proofs.Words.{List, None, Option, Overlay, OverlayCode, OverlayEdit, OverlayRead, Overlays}
use Rattle.schedule_front.proofs.Words.{OverlaysOn, said_by}
use Rattle.schedule_front.proofs.Words.{ReadsOverlays, Some, Spelled, after, after_begins, after_itself, after_overlays}
use Rattle.schedule_front.proofs.Words.{all_pairs_push, ap, append-nil, append_assoc, arith, bind_some, braced}
use Rattle.schedule_front.proofs.Words.{condition_lexemes, counted, edits_lexemes, finish, keyed, keyed_given}
use Rattle.schedule_front.proofs.Words.{length, length-append, length-map, letters, line_of, map, name_at, other_next}
use Rattle.schedule_front.proofs.Words.{map-append}
use Rattle.schedule_front.proofs.Words.{overlay_of, overlays_lexemes, refl, subst, suc, sym, zero, ℕ}
use Rattle.script_tokens.specs.declared.keyword.Keyword.TheVariants as the
use Rattle.script_front.specs.BlockReader.{new_name_at}
use Rattle.script_front.proofs.ReadingDefinitions.{new_name_given, new_name_found, name_front, name_mid}
use Rattle.schedule_front.specs.Readers.{condition_at, edits_at, overlay_from, overlay_at, overlays_at}
use Rattle.schedule_front.proofs.ReadingTests.{condition_given, condition_found}
use Rattle.schedule_front.proofs.ReadingEdits.{edits_given, edits_found, edits_on, no_edit, on_same}

abbrev pub Names : Type 0
Names = List (List ℕ)

-- ---- one overlay

-- the tokens of an overlay after the word, and those after it
abbrev overlaid : List ℕ → Overlay → Spelled → Spelled
overlaid name o rest =
    name ∷ letters the.While ∷ (condition_lexemes o.condition ++ braced (edits_lexemes o.edits) rest)

record IsRead (known : Names) (lines : List ℕ) (line left : ℕ) (ws : Spelled) (x : OverlayRead) : Type 0 where
  named : IsName x.name
  absent : All (λ other. other ≢ x.name) known
  is : IsOverlay x.overlay
  counts : length x.overlay.edits + x.left ≡ left
  spelled : ws ≡ overlaid x.name x.overlay x.rest
  line_is : x.overlay.line ≡ line
  lined : EditsOn lines x.overlay.edits (letters the.CloseBrace ∷ x.rest)

from_given : (known : Names) (lines : List ℕ) (line left : ℕ) (ws : Spelled) (x : OverlayRead)
    → overlay_from known lines line left ws ≡ Some x → IsRead known lines line left ws x
unfolding overlay_from
from_given known lines line left ws x e =
    let n = bind_some (new_name_at known ws) _ x e in
    let fn = new_name_given known ws n.x n.first in
    let c = bind_some (keyed the.While condition_at n.x.1) _ x n.second in
    let k = keyed_given the.While condition_at n.x.1 c.x c.first in
    let fc = condition_given k.rest c.x k.read_is in
    let o = bind_some (after the.OpenBrace c.x.1) _ x c.second in
    let opens = after_begins the.OpenBrace c.x.1 o.x o.first in
    let d = bind_some (edits_at left lines o.x) _ x o.second in
    let fd = edits_given left lines o.x d.x d.first in
    let z = bind_some (after the.CloseBrace d.x.rest) _ x d.second in
    let closes = after_begins the.CloseBrace d.x.rest z.x z.first in
    let body : o.x ≡ edits_lexemes d.x.edits ++ letters the.CloseBrace ∷ z.x =
    fd.spelled ∙ ap (λ (vs : Spelled). edits_lexemes d.x.edits ++ vs) closes in
    let inner : c.x.1 ≡ braced (edits_lexemes d.x.edits) z.x =
    opens ∙ ap (λ (vs : Spelled). letters the.OpenBrace ∷ vs) body in
    let behind : n.x.1 ≡ letters the.While ∷ (condition_lexemes c.x.0 ++ braced (edits_lexemes d.x.edits) z.x) =
    k.begins ∙ ap (λ (vs : Spelled). letters the.While ∷ vs)
    (fc.1 ∙ ap (λ (vs : Spelled). condition_lexemes c.x.0 ++ vs) inner) in
    finish (IsRead known lines line left ws) _ x z.second (record {
      named = fn.named;
      absent = fn.absent;
      is = record { condition = fc.0; edits = fd.formed };
      counts = fd.counts;
      spelled = fn.spelled ∙ ap (λ (vs : Spelled). n.x.0 ∷ vs) behind;
      line_is = refl;
      lined = subst (λ (vs : Spelled). EditsOn lines d.x.edits vs) closes fd.lined;
    })

record IsNext (known : Names) (lines : List ℕ) (left : ℕ) (ws : Spelled) (x : OverlayRead) : Type 0 where
  named : IsName x.name
  absent : All (λ other. other ≢ x.name) known
  is : IsOverlay x.overlay
  counts : 1 + (length x.overlay.edits + x.left) ≡ left
  spelled : ws ≡ letters the.Overlay ∷ overlaid x.name x.overlay x.rest
  line_is : x.overlay.line ≡ line_of lines ws
  lined : EditsOn lines x.overlay.edits (letters the.CloseBrace ∷ x.rest)

overlay_given : (known : Names) (lines : List ℕ) (left : ℕ) (ws : Spelled) (x : OverlayRead)
    → overlay_at known lines left ws ≡ Some x → IsNext known lines left ws x
unfolding overlay_at
overlay_given known lines zero ws x e = absurd cc
overlay_given known lines (suc left) ws x e =
    let a = bind_some (after the.Overlay ws) _ x e in
    let g = from_given known lines (line_of lines ws) left a.x x a.second in
    record {
      named = g.named;
      absent = g.absent;
      is = g.is;
      counts = (let c = g.counts in omega (arith, c));
      spelled = after_begins the.Overlay ws a.x a.first
          ∙ ap (λ (vs : Spelled). letters the.Overlay ∷ vs) g.spelled;
      line_is = g.line_is;
      lined = g.lined;
    }

-- the name at the end is not one of those before it
absent_last : (known later : Names) (name : List ℕ) → AreNamedApart (known ++ name ∷ later) → (k : ℕ)
    → k < length known → name_at known k ≢ name
absent_last known later name different k lt e =
    let l = length-append known (name ∷ later) in
    let there : length known < length (known ++ name ∷ later) = omega (arith, l) in
    different k (length known) [] lt there
    (sym (name_front known (name ∷ later) k lt) ∙ e ∙ sym (name_mid known name later))

-- an overlay on the lines of its tokens, where these overlays follow it
abbrev overlay_on : List ℕ → List ℕ → Names → Overlay → List Overlay → Overlay
overlay_on lines name names o os = record {
  line = line_of lines (overlays_lexemes (name ∷ names) (o ∷ os));
  condition = o.condition;
  edits = edits_on lines o.edits (letters the.CloseBrace ∷ overlays_lexemes names os);
}

-- overlays on the lines of their tokens
abbrev pub overlays_on : List ℕ → Names → List Overlay → List Overlay
overlays_on lines [] os = []
overlays_on lines (name ∷ names) [] = []
overlays_on lines (name ∷ names) (o ∷ os) = overlay_on lines name names o os ∷ overlays_on lines names os

pub overlays_same : (lines : List ℕ) (names : Names) (os : List Overlay) → length names ≡ length os
    → OverlaysOn lines names os → overlays_on lines names os ≡ os
overlays_same lines [] [] same h = refl
overlays_same lines [] (o ∷ os) same h = absurd (omega (arith, same))
overlays_same lines (name ∷ names) [] same h = refl
overlays_same lines (name ∷ names) (o ∷ os) same h =
    rw (
      on_same lines o.edits (letters the.CloseBrace ∷ overlays_lexemes names os) h.1,
      ← h.0,
      overlays_same lines names os (omega (arith, same)) h.2,
    ) refl

pub edits_said : (lines : List ℕ) (es : List OverlayEdit) (after : Spelled)
    → map (λ e. e.edit) (edits_on lines es after) ≡ map (λ e. e.edit) es
edits_said lines [] after = refl
edits_said lines (e ∷ es) after = rw (edits_said lines es after) refl

pub overlays_said : (lines : List ℕ) (names : Names) (os : List Overlay) → length names ≡ length os
    → map said_by (overlays_on lines names os) ≡ map said_by os
overlays_said lines [] [] same = refl
overlays_said lines [] (o ∷ os) same = absurd (omega (arith, same))
overlays_said lines (name ∷ names) [] same = refl
overlays_said lines (name ∷ names) (o ∷ os) same =
    rw (
      edits_said lines o.edits (letters the.CloseBrace ∷ overlays_lexemes names os),
      overlays_said lines names os (omega (arith, same)),
    ) refl

overlay_found : (known later names : Names) (name : List ℕ) (lines : List ℕ) (left new : ℕ) (o : Overlay)
    (os : List Overlay) → IsName name → AreNamedApart (known ++ name ∷ later) → IsOverlay o
    → 1 + (length o.edits + new) ≡ left
    → overlay_at known lines left (overlays_lexemes (name ∷ names) (o ∷ os))
    ≡ Some (record {
      name = name;
      overlay = overlay_on lines name names o os;
      left = new;
      rest = overlays_lexemes names os;
    })
unfolding overlay_at overlay_from
overlay_found known later names name lines zero new o os named different is counts = absurd (omega (arith, counts))
overlay_found known later names name lines (suc left) new o os named different is counts =
    let rest : Spelled = overlays_lexemes names os in
    let body : Spelled = braced (edits_lexemes o.edits) rest in
    let new_name = new_name_found known name (letters the.While ∷ (condition_lexemes o.condition ++ body)) named
    (absent_last known later name different) in
    let condition = condition_found o.condition body is.condition
    (other_next the.OpenBrace the.And _ (λ e. cc), other_next the.OpenBrace the.Or _ (λ e. cc)) in
    let edits = edits_found o.edits left new lines (letters the.CloseBrace ∷ rest) is.edits (omega (arith, counts))
    (no_edit rest) in
    rw (
      after_itself the.Overlay (overlaid name o rest),
      new_name,
      after_itself the.While (condition_lexemes o.condition ++ body),
      condition,
      after_itself the.OpenBrace (edits_lexemes o.edits ++ letters the.CloseBrace ∷ rest),
      edits,
      after_itself the.CloseBrace rest,
    ) refl

-- ---- overlays

pub record AreOverlaysRead (room : ℕ) (known : Names) (lines : List ℕ) (left : ℕ) (ws : Spelled) (p : Overlays) : Type
    0 where
  pub named : All IsName (known ++ p.names)
  pub different : AreNamedApart (known ++ p.names)
  pub each_named : length p.names ≡ length p.overlays
  pub few : length p.overlays ≤ room
  pub each : AllByRecursion IsOverlay p.overlays
  pub counts : counted p.overlays ≤ left
  pub spelled : ws ≡ overlays_lexemes p.names p.overlays
  pub lined : OverlaysOn lines p.names p.overlays

none_read : (room : ℕ) (known : Names) (lines : List ℕ) (left : ℕ) (p : Overlays) → All IsName known
    → AreNamedApart known → Some (let q : Overlays = record { names = []; overlays = [] } in q) ≡ Some p
    → AreOverlaysRead room known lines left [] p
none_read room known lines left p named different e =
    finish (AreOverlaysRead room known lines left []) _ p e (record {
      named = rw (append-nil known) named;
      different = rw (append-nil known) different;
      each_named = refl;
      few = omega arith;
      each = tt;
      counts = omega arith;
      spelled = refl;
      lined = tt;
    })

record Later (name : List ℕ) (o : Overlay) (r : Option Overlays) (p : Overlays) : Type 0 where
  more : Overlays
  read : r ≡ Some more
  is : Some (let q : Overlays = record { names = name ∷ more.names; overlays = o ∷ more.overlays } in q) ≡ Some p

later_some : (name : List ℕ) (o : Overlay) (r : Option Overlays) (p : Overlays)
    → after_overlays (name ∷ []) (o ∷ []) r ≡ Some p → Later name o r p
later_some name o None p e = absurd cc
later_some name o (Some q) p e = record { more = q; read = refl; is = e }

pub overlays_given : (room : ℕ) (known : Names) (lines : List ℕ) (left : ℕ) (ws : Spelled) (p : Overlays)
    → All IsName known → AreNamedApart known → overlays_at room known lines left ws ≡ Some p
    → AreOverlaysRead room known lines left ws p
unfolding overlays_at
overlays_given zero known lines left [] p named different e = none_read zero known lines left p named different e
overlays_given zero known lines left (w ∷ ws) p named different e = absurd cc
overlays_given (suc room) known lines left [] p named different e =
    none_read (suc room) known lines left p named different e
overlays_given (suc room) known lines left (w ∷ ws) p named different e =
    let a = bind_some (overlay_at known lines left (w ∷ ws)) _ p e in
    let g = overlay_given known lines left (w ∷ ws) a.x a.first in
    let l = later_some a.x.name a.x.overlay _ p a.second in
    let h = overlays_given room (known ++ a.x.name ∷ []) lines a.x.left a.x.rest l.more
    (All-push IsName known a.x.name named g.named)
    (all_pairs_push (λ one other. one ≢ other) known a.x.name different g.absent) l.read in
    let same = append_assoc known (a.x.name ∷ []) l.more.names in
    let whole : w ∷ ws ≡ overlays_lexemes (a.x.name ∷ l.more.names) (a.x.overlay ∷ l.more.overlays) =
    g.spelled ∙ ap (λ (vs : Spelled). letters the.Overlay ∷ overlaid a.x.name a.x.overlay vs) h.spelled in
    finish (AreOverlaysRead (suc room) known lines left (w ∷ ws)) _ p l.is (record {
      named = subst (All IsName) same h.named;
      different = subst AreNamedApart same h.different;
      each_named = ap suc h.each_named;
      few = (let f = h.few in omega (arith, f));
      each = (g.is, h.each);
      counts = (let c = g.counts in let d = h.counts in omega (arith, c, d));
      spelled = whole;
      lined = (
        g.line_is ∙ ap (line_of lines) whole,
        subst (λ (vs : Spelled). EditsOn lines a.x.overlay.edits (letters the.CloseBrace ∷ vs)) h.spelled g.lined,
        h.lined,
      );
    })

-- the first name of some
first_name : (known later : Names) (name : List ℕ) → All IsName (known ++ name ∷ later) → IsName name
first_name known later name named =
    let l = length-append known (name ∷ later) in
    subst IsName (name_mid known name later) (named (length known) [] (omega (arith, l)))

pub overlays_found : (names : Names) (os : List Overlay) (known : Names) (room : ℕ) (lines : List ℕ) (left : ℕ)
    → All IsName (known ++ names) → AreNamedApart (known ++ names) → length names ≡ length os → length os ≤ room
    → AllByRecursion IsOverlay os → counted os ≤ left
    → overlays_at room known lines left (overlays_lexemes names os)
    ≡ Some (record { names = names; overlays = overlays_on lines names os })
unfolding overlays_at
overlays_found [] [] known zero lines left named different same few each counts = refl
overlays_found [] [] known (suc room) lines left named different same few each counts = refl
overlays_found [] (o ∷ os) known room lines left named different same few each counts = absurd (omega (arith, same))
overlays_found (n ∷ ns) [] known room lines left named different same few each counts = absurd (omega (arith, same))
overlays_found (n ∷ ns) (o ∷ os) known zero lines left named different same few each counts =
    absurd (omega (arith, few))
overlays_found (n ∷ ns) (o ∷ os) known (suc room) lines left named different same few each counts =
    let new : ℕ = left - (1 + length o.edits) in
    let one = overlay_found known ns ns n lines left new o os (first_name known ns n named) different each.0
    (omega (arith, counts)) in
    let move = sym (append_assoc known (n ∷ []) ns) in
    let others = overlays_found ns os (known ++ n ∷ []) room lines new (subst (All IsName) move named)
    (subst AreNamedApart move different) (omega (arith, same)) (omega (arith, few)) each.1 (omega (arith, counts)) in
    rw (one, others) refl

-- ---- one overlay after another, as the code reads them

pub pushed : (xs ys : List OverlayCode) (o : OverlayCode) → ys ≡ xs ++ o ∷ []
    → map overlay_of ys ≡ map overlay_of xs ++ overlay_of o ∷ []
pushed xs ys o e = rw (e) (map-append overlay_of xs (o ∷ []))

-- the overlays that were read, in front of those that are read from here
pub record GoesOn (names : Names) (list : List OverlayCode) (old left : ℕ) (before now : Input) : Type 0 where
  pub room : ℕ
  pub fills : length list + room ≡ 64
  pub read : overlays_at 64 [] before.lines old before.lexemes
      ≡ after_overlays names (map overlay_of list) (overlays_at room names before.lines left now.lexemes)
  pub same : now.lines ≡ before.lines

after_none : (r : Option Overlays) → r ≡ after_overlays [] [] r
after_none None = refl
after_none (Some p) = refl

pub begins_on : (names : Names) (left : ℕ) (i : Input) → names ≡ [] → GoesOn names [] left left i i
begins_on names left i none = rw (none) (record {
  room = 64;
  fills = refl;
  read = after_none (overlays_at 64 [] i.lines left i.lexemes);
  same = refl;
})

after_both : (names : Names) (os : List Overlay) (name : List ℕ) (o : Overlay) (r : Option Overlays)
    → after_overlays names os (after_overlays (name ∷ []) (o ∷ []) r)
    ≡ after_overlays (names ++ name ∷ []) (os ++ o ∷ []) r
after_both names os name o None = refl
after_both names os name o (Some p) =
    rw (append_assoc names (name ∷ []) p.names, append_assoc os (o ∷ []) p.overlays) refl

one_step : (room : ℕ) (known : Names) (lines : List ℕ) (left : ℕ) (ws : Spelled) (x : OverlayRead) → ws ≢ []
    → overlay_at known lines left ws ≡ Some x → overlays_at (suc room) known lines left ws
    ≡ after_overlays (x.name ∷ []) (x.overlay ∷ []) (overlays_at room (known ++ x.name ∷ []) lines x.left x.rest)
unfolding overlays_at
one_step room known lines left [] x some e = absurd (some refl)
one_step room known lines left (w ∷ ws) x some e = rw (e) refl

pub goes_on : (names more : Names) (old left new : ℕ) (i j k : Input) (xs ys : List OverlayCode) → length xs < 64
    → j.lexemes ≢ [] → HasOneMore names more left new (map overlay_of xs) (map overlay_of ys) j k
    → GoesOn names xs old left i j → GoesOn more ys old new i k
goes_on names more old left new i j k xs ys few some m h = further h.room h.fills h.read
  where
    further : (room : ℕ) → length xs + room ≡ 64 → overlays_at 64 [] i.lines old i.lexemes
        ≡ after_overlays names (map overlay_of xs) (overlays_at room names i.lines left j.lexemes)
        → GoesOn more ys old new i k
    further zero fills read = absurd (omega (arith, fills, few))
    further (suc room) fills read = record {
      room = room;
      fills = (
          let a = length-map xs overlay_of in
          let b = length-map ys overlay_of in
          let c = ap length m.more in
          let d = length-append (map overlay_of xs) (m.overlay ∷ []) in omega (arith, a, b, c, d, fills)
          );
      read = read ∙ ap (after_overlays names (map overlay_of xs))
          (one_step room names i.lines left j.lexemes _ some
          (ap (λ (ls : List ℕ). overlay_at names ls left j.lexemes) (sym h.same) ∙ m.read))
          ∙ after_both names (map overlay_of xs) m.name m.overlay
          (overlays_at room (names ++ m.name ∷ []) i.lines new k.lexemes)
          ∙ rw (m.more_names, m.more) refl;
      same = m.same ∙ h.same;
    }

pub all_read : (names : Names) (old left : ℕ) (i j : Input) (xs : List OverlayCode) → j.lexemes ≡ []
    → GoesOn names xs old left i j → ReadsOverlays names (map overlay_of xs) old i
unfolding overlays_at
all_read names old left i j xs none h = record { read = further h.room h.read }
  where
    further : (room : ℕ) → overlays_at 64 [] i.lines old i.lexemes
        ≡ after_overlays names (map overlay_of xs) (overlays_at room names i.lines left j.lexemes)
        → overlays_at 64 [] i.lines old i.lexemes
        ≡ Some (record { names = names; overlays = map overlay_of xs })
    further zero read = read ∙ rw (none, append-nil names, append-nil (map overlay_of xs)) refl
    further (suc room) read = read ∙ rw (none, append-nil names, append-nil (map overlay_of xs)) refl

stuck : (room : ℕ) (known : Names) (lines : List ℕ) (left : ℕ) (ws : Spelled) → ws ≢ []
    → (1 ≤ room → overlay_at known lines left ws ≡ None) → overlays_at room known lines left ws ≡ None
unfolding overlays_at
stuck zero known lines left [] some none = absurd (some refl)
stuck zero known lines left (w ∷ ws) some none = refl
stuck (suc room) known lines left [] some none = absurd (some refl)
stuck (suc room) known lines left (w ∷ ws) some none = rw (none (omega arith)) refl

pub no_room : (names : Names) (old left : ℕ) (i j : Input) (xs : List OverlayCode) → length xs ≡ 64
    → j.lexemes ≢ [] → GoesOn names xs old left i j → overlays_at 64 [] i.lines old i.lexemes ≡ None
no_room names old left i j xs full some h =
    h.read ∙ ap (after_overlays names (map overlay_of xs)) (stuck h.room names i.lines left j.lexemes some
    (λ one. absurd (let f = h.fills in omega (arith, f, full, one))))

pub none_next : (names : Names) (old left : ℕ) (i j : Input) (xs : List OverlayCode) → j.lexemes ≢ []
    → overlay_at names j.lines left j.lexemes ≡ None → GoesOn names xs old left i j
    → overlays_at 64 [] i.lines old i.lexemes ≡ None
none_next names old left i j xs some none h =
    h.read ∙ ap (after_overlays names (map overlay_of xs)) (stuck h.room names i.lines left j.lexemes some
    (λ one. ap (λ (ls : List ℕ). overlay_at names ls left j.lexemes) (sym h.same) ∙ none))
