-- The reading of a schedule: what is read is the schedule that the tokens spell. So tokens are those of one schedule,
-- apart from lines, and a text is that of one schedule.
use Rattle.schedule_front.proofs.Words.{[], ◌++◌, ◌-◌, ◌∙◌, ◌∷◌, ◌≡◌, All-nil, AreTokens}
use Rattle.schedule_front.proofs.Words.{HasLines, Input, IsName, IsNoSchedule, IsSchedule}
use Rattle.schedule_front.proofs.Words.{ItemsOn, List, None, SchedulesAreRead, Some, Spelled}
use Rattle.schedule_front.proofs.Words.{SpellsTree, Token, Tree, after, after_begins, after_itself, ap, arith}
use Rattle.schedule_front.proofs.Words.{bind_some, finish, header_at, header_lexemes, item_found}
use Rattle.schedule_front.proofs.Words.{items_at, items_lexemes, length, letters, lexemes_of, line_of, line_of_left}
use Rattle.schedule_front.proofs.Words.{lines_of, other_next, overlays_lexemes, refl, schedule_lexemes, subst, sym}
use Rattle.schedule_front.proofs.Words.{SchedulesHaveTheirOwnTokens, TextsAreOfOneSchedule, added_by, first_position}
use Rattle.schedule_front.proofs.Words.{map, said_by, tokens_of, tree_lexemes, ℕ}
use Rattle.script_tokens.specs.declared.keyword.Keyword.TheVariants as the
use Rattle.script_front.proofs.ReadingHeaders.{header_given, header_found}
use Rattle.script_front.proofs.ReadingItems.{items_given, items_found, items_on, on_same, on_added}
use Rattle.script_front.proofs.ReadingScripts.{ends_header}
use Rattle.schedule_front.specs.Readers.{overlays_at, schedule_at}
use Rattle.schedule_front.proofs.Denoting.{are_tokens, are_its_tokens, denoted_words}
use Rattle.schedule_front.proofs.ReadingOverlays.{overlays_given, overlays_found, overlays_on, overlays_same}
use Rattle.schedule_front.proofs.ReadingOverlays.{overlays_said}

-- ---- what is read

pub schedule_given : (i : Input) (t : Tree) → schedule_at i ≡ Some t → IsSchedule t × SpellsTree t i
unfolding schedule_at
schedule_given i t e =
    let h = bind_some (header_at i.lexemes) _ t e in
    let fh = header_given i.lexemes h.x h.first in
    let m = bind_some (items_at 8192 i.lines h.x.1) _ t h.second in
    let fm = items_given 8192 i.lines h.x.1 m.x m.first in
    let b = bind_some (after the.Schedule m.x.rest) _ t m.second in
    let begins = after_begins the.Schedule m.x.rest b.x b.first in
    let o = bind_some (overlays_at 64 [] i.lines m.x.left b.x) _ t b.second in
    let fo = overlays_given 64 [] i.lines m.x.left b.x o.x (All-nil IsName)
    (λ i j d lt within. absurd (omega (arith, within))) o.first in
    let later : m.x.rest ≡ letters the.Schedule ∷ overlays_lexemes o.x.names o.x.overlays =
    begins ∙ ap (λ (vs : Spelled). letters the.Schedule ∷ vs) fo.spelled in
    finish (λ s. IsSchedule s × SpellsTree s i) _ t o.second (
      record {
        headed = fh.0;
        adding = fm.formed;
        named = fo.named;
        different = fo.different;
        each_named = fo.each_named;
        few_overlays = fo.few;
        each = fo.each;
        few = (let x = fm.counts in let y = fo.counts in omega (arith, x, y));
      },
      record {
        spells = fh.1 ∙ ap (λ (vs : Spelled). header_lexemes h.x.0 ++ vs)
            (fm.spelled ∙ ap (λ (vs : Spelled). items_lexemes m.x.items ++ vs) later);
        lined = record {
          items = subst (λ (vs : Spelled). ItemsOn i.lines m.x.items vs) later fm.lined;
          schedule = ap (line_of i.lines) later;
          overlays = fo.lined;
          last = refl;
        };
      },
    )

-- ---- what is spelled

-- a tree on the lines of its tokens
abbrev tree_on : List ℕ → Tree → Tree
tree_on lines t = record {
  header = t.header;
  items = items_on lines t.items (schedule_lexemes t);
  line = line_of lines (schedule_lexemes t);
  names = t.names;
  overlays = overlays_on lines t.names t.overlays;
  last_line = line_of_left lines 1;
}

schedule_read : (i : Input) (t : Tree) → IsSchedule t → i.lexemes ≡ tree_lexemes t
    → schedule_at i ≡ Some (tree_on i.lines t)
unfolding schedule_at
schedule_read i t is e =
    let left : ℕ = 8192 - length t.items in
    let few = is.few in
    let header = header_found t.header (items_lexemes t.items ++ schedule_lexemes t) is.headed
    (ends_header t.items (schedule_lexemes t) (other_next the.Schedule the.Reserve _ (λ f. cc))) in
    let items = items_found t.items 8192 left i.lines (schedule_lexemes t) is.adding (omega (arith, few))
    (item_found the.Schedule _) in
    let overlays = overlays_found t.names t.overlays [] 64 i.lines left is.named is.different is.each_named
    is.few_overlays is.each (omega (arith, few)) in
    rw (e, header, items, after_itself the.Schedule (overlays_lexemes t.names t.overlays), overlays) refl

tree_same : (lines : List ℕ) (t : Tree) → IsSchedule t → HasLines lines t → tree_on lines t ≡ t
tree_same lines t is h =
    rw (
      on_same lines t.items (schedule_lexemes t) h.items,
      overlays_same lines t.names t.overlays is.each_named h.overlays,
      ← h.schedule,
      ← h.last,
    ) refl

pub schedule_found : (i : Input) (t : Tree) → IsSchedule t → SpellsTree t i → schedule_at i ≡ Some t
schedule_found i t is s = schedule_read i t is s.spells ∙ ap (λ (u : Tree). Some u) (tree_same i.lines t is s.lined)

pub schedules_are_read : SchedulesAreRead
schedules_are_read = record { given = schedule_given; found = schedule_found }

-- ---- schedules and texts

some_tree : (s t : Tree) → Some s ≡ Some t → s ≡ t
some_tree s t e = finish (λ u. s ≡ u) s t e refl

pub schedules_alike : SchedulesHaveTheirOwnTokens
schedules_alike s t x y e =
    let i : Input = record { lexemes = tree_lexemes s; lines = [] } in
    let same = some_tree (tree_on [] s) (tree_on [] t) (sym (schedule_read i s x refl) ∙ schedule_read i t y e) in
    record {
      header = ap (λ (u : Tree). u.header) same;
      items = sym (on_added [] s.items _) ∙ ap (λ (u : Tree). added_by u.items) same ∙ on_added [] t.items _;
      names = ap (λ (u : Tree). u.names) same;
      overlays = sym (overlays_said [] s.names s.overlays x.each_named)
          ∙ ap (λ (u : Tree). map said_by u.overlays) same ∙ overlays_said [] t.names t.overlays y.each_named;
    }

pub one_schedule : TextsAreOfOneSchedule
one_schedule text s t x y d e =
    let tokens : List Token = tokens_of first_position d.pieces in
    let here = are_tokens text s d in
    let i : Input = record { lexemes = tree_lexemes s; lines = lines_of tokens } in
    let spells = sym (denoted_words text tokens s here d) ∙ denoted_words text tokens t here e in
    let on : HasLines (lines_of tokens) t = rw (are_its_tokens text tokens t here e) e.lined in
    let one = schedule_found i s x (record { spells = refl; lined = d.lined }) in
    let other = schedule_found i t y (record { spells = spells; lined = on }) in
    some_tree s t (sym one ∙ other)

-- where nothing is read, no schedule has this text
pub none_spelled : (text : List ℕ) (tokens : List Token) (i : Input) → AreTokens text tokens
    → i.lexemes ≡ lexemes_of text tokens → i.lines ≡ lines_of tokens → schedule_at i ≡ None → IsNoSchedule text
none_spelled text tokens i are lexemes lines none t is s =
    let on = subst (λ (ts : List Token). HasLines (lines_of ts) t) (sym (are_its_tokens text tokens t are s)) s.lined in
    let read =
    schedule_found i t is (record { spells = lexemes ∙ denoted_words _ _ _ are s; lined = rw (lines) on }) in
    let f : None ≡ Some t = sym none ∙ read in absurd cc
