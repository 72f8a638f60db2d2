-- The lines of a live run list their steps one after another, and so does one event file with just these lines.
use Rattle.plan_live.proofs.Words.{[], ◌++◌, ◌∙◌, ◌∷◌, ◌≡◌, ◌≤◌, ◌⊎◌, AllByRecursion, Appends, AreLinesOf, AreListing}
use Rattle.plan_live.proofs.Words.{Begins, BytesHaveLines, FitsIntoMemory, GivesLines, HasNoFeed, Holds, HoldsOneList}
use Rattle.plan_live.proofs.Words.{IfSome, InputIsPlayback, IsAtEnd, IsPlayback, IsStep, LacksLastFeed, LineDoes}
use Rattle.plan_live.proofs.Words.{LineHolds, LinesDo, LinesListInTurn, List, ListInTurn, LiveIsPlayback, None, Option}
use Rattle.plan_live.proofs.Words.{Playing, Request, Some, Step, ap, append-nil, append_assoc, arith, events_of, inl}
use Rattle.plan_live.proofs.Words.{inr, kept_bytes, length, length-append, lines_of, over, refl, step_lexemes, subst}
use Rattle.plan_live.proofs.Words.{sym, with_feeds, ℕ}
use Rattle.plan_session.proofs.JoinedTexts.{holds_joined}
use Rattle.script_tokens.specs.Lexing.{lexed}

-- ---- one event file

nothing_holds : Holds [] []
unfolding lexed
nothing_holds = record { tokens = []; cut = refl; lexemes = refl; in_range = tt }

-- a line, and a text after its line feed
line_then : (line rest : List ℕ) → (line ++ 10 ∷ []) ++ rest ≡ line ++ 10 ∷ rest
line_then line rest = append_assoc line (10 ∷ []) rest

shorter : (line rest : List ℕ) → length (line ++ 10 ∷ rest) ≤ 18446744073709551615 → length rest ≤ 18446744073709551615
shorter line rest short = let long = length-append line (10 ∷ rest) in omega (arith, long, short)

-- one line more, in front
line_first : (line rest : List ℕ) (first others steps : List Step)
    → length ((line ++ 10 ∷ []) ++ rest) ≤ 18446744073709551615 → steps ≡ first ++ others → LineHolds line first
    → (length rest ≤ 18446744073709551615 → Holds rest others) → Holds ((line ++ 10 ∷ []) ++ rest) steps
line_first line rest first others steps short cut here later =
    let same : (line ++ 10 ∷ []) ++ rest ≡ line ++ 10 ∷ rest = line_then line rest in
    let fits : length (line ++ 10 ∷ rest) ≤ 18446744073709551615 =
    subst (λ (l : List ℕ). length l ≤ 18446744073709551615) same short in
    let both : Holds (line ++ 10 ∷ rest) (first ++ others) =
    holds_joined step_lexemes IsStep line rest first others fits here.holds (later (shorter line rest fits)) in
    subst (λ (l : List ℕ). Holds l steps) (sym same)
    (subst (λ (s : List Step). Holds (line ++ 10 ∷ rest) s) (sym cut) both)

with_feeds_hold : (lines : List (List ℕ)) (steps : List Step) → ListInTurn lines steps
    → FitsIntoMemory (with_feeds lines)
    → Holds (with_feeds lines) steps
with_feeds_hold [] steps none short = subst (λ (s : List Step). Holds [] s) (sym none) nothing_holds
with_feeds_hold (line ∷ lines) steps (first, rest, here, cut, others) short =
    line_first line (with_feeds lines) first rest steps short cut here (λ fits. with_feeds_hold lines rest others fits)

-- the last line ends with the text
without_last_feed : (front : List (List ℕ)) (last : List ℕ) (steps : List Step) → ListInTurn (front ++ last ∷ []) steps
    → FitsIntoMemory (with_feeds front ++ last) → Holds (with_feeds front ++ last) steps
without_last_feed [] last steps (first, rest, here, cut, none) short =
    let all : first ≡ steps = sym (append-nil first) ∙ ap (λ (s : List Step). first ++ s) (sym none) ∙ sym cut in
    subst (λ (s : List Step). Holds last s) all here.holds
without_last_feed (line ∷ front) last steps (first, rest, here, cut, others) short =
    let same : with_feeds (line ∷ front) ++ last ≡ (line ++ 10 ∷ []) ++ (with_feeds front ++ last) =
    append_assoc (line ++ 10 ∷ []) (with_feeds front) last in
    let fits : length ((line ++ 10 ∷ []) ++ (with_feeds front ++ last)) ≤ 18446744073709551615 =
    subst (λ (l : List ℕ). length l ≤ 18446744073709551615) same short in
    subst (λ (l : List ℕ). Holds l steps) (sym same)
    (line_first line (with_feeds front ++ last) first rest steps fits cut here
    (λ fits. without_last_feed front last rest others fits))

either_way : (lines : List (List ℕ)) (steps : List Step) (text : List ℕ) → ListInTurn lines steps
    → (text ≡ with_feeds lines) ⊎ LacksLastFeed text lines → FitsIntoMemory text → Holds text steps
either_way lines steps text h (inl all) short =
    subst (λ (l : List ℕ). Holds l steps) (sym all)
    (with_feeds_hold lines steps h (subst (λ (l : List ℕ). FitsIntoMemory l) all short))
either_way lines steps text h (inr l) short =
    subst (λ (t : List ℕ). Holds t steps) (sym l.bytes_are)
    (without_last_feed l.front l.last steps (subst (λ (ls : List (List ℕ)). ListInTurn ls steps) l.lines_are h)
    (subst (λ (t : List ℕ). FitsIntoMemory t) l.bytes_are short))

pub lines_list_in_turn : LinesListInTurn
lines_list_in_turn lines steps text h are short = either_way lines steps text h are.whole short

-- ---- the lines that list steps

-- those of the lines that list steps
record Listing (lines : List (List ℕ)) (steps : List Step) : Type 0 where
  listing : List (List ℕ)
  those : AreListing lines listing
  in_turn : ListInTurn listing steps

listing_more : (line : List ℕ) (lines : List (List ℕ)) (first rest steps : List Step) → LineDoes line first
    → steps ≡ first ++ rest → Listing lines rest → Listing (line ∷ lines) steps
listing_more line lines first rest steps (inl here) cut l = record {
  listing = line ∷ l.listing;
  those = inl (first, l.listing, here, refl, l.those);
  in_turn = (first, rest, here, cut, l.in_turn);
}
listing_more line lines first rest steps (inr bad) cut l =
    let all : steps ≡ rest = cut ∙ ap (λ (s : List Step). s ++ rest) bad.1 in
    record {
      listing = l.listing;
      those = inr (bad.0, l.those);
      in_turn = subst (λ (s : List Step). ListInTurn l.listing s) (sym all) l.in_turn;
    }

listing_of : (lines : List (List ℕ)) (steps : List Step) → LinesDo lines steps → Listing lines steps
listing_of [] steps h = record { listing = []; those = refl; in_turn = h }
listing_of (line ∷ lines) steps (first, rest, cut, here, others) =
    listing_more line lines first rest steps here cut (listing_of lines rest others)

-- ---- such a file exists

front_has_none : (lines more : List (List ℕ)) → AllByRecursion HasNoFeed (lines ++ more)
    → AllByRecursion HasNoFeed lines
front_has_none [] more h = tt
front_has_none (line ∷ lines) more h = (h.0, front_has_none lines more h.1)

listing_has_none : (lines listing : List (List ℕ)) → AreListing lines listing → AllByRecursion HasNoFeed lines
    → AllByRecursion HasNoFeed listing
listing_has_none [] listing none h = subst (λ (ls : List (List ℕ)). AllByRecursion HasNoFeed ls) (sym none) tt
listing_has_none (line ∷ lines) listing (inl (steps, others, holds, is, rest)) h =
    subst (λ (ls : List (List ℕ)). AllByRecursion HasNoFeed ls) (sym is) (h.0, listing_has_none lines others rest h.1)
listing_has_none (line ∷ lines) listing (inr (none, rest)) h = listing_has_none lines listing rest h.1

one_file : BytesHaveLines → (left after : Option (List ℕ)) (lines listing : List (List ℕ)) → GivesLines left lines after
    → AreListing lines listing → IfSome left (λ input. AreLinesOf (with_feeds listing) listing)
one_file law None after lines listing given those = tt
one_file law (Some input) None lines listing given those = absurd given
one_file law (Some input) (Some rest) lines listing given those =
    let are : AreLinesOf input (lines ++ lines_of rest) = (law input (lines ++ lines_of rest)).1 given in
    record {
      no_feed = listing_has_none lines listing those (front_has_none lines (lines_of rest) are.no_feed);
      whole = inl refl;
    }

-- ---- the run

-- the text of a request does not affect where its player starts
pub playback_of : (r : Request) (p : Playing) (steps : List Step) (text : List ℕ) → Begins r p → Holds text steps
    → IsPlayback (over text r) p steps
playback_of r p steps text h holds = record {
  ready = record { file = h.ready.file; start = h.ready.start };
  begins = h.begins;
  holds = holds;
}

pub live_is_playback : BytesHaveLines → LiveIsPlayback
live_is_playback law r p old new begins (lines, reached, ended) =
    let l : Listing lines reached.steps = listing_of lines reached.steps reached.does in
    record {
      lines = lines;
      listing = l.listing;
      steps = reached.steps;
      given = reached.given;
      those = l.those;
      in_turn = l.in_turn;
      playback = λ text are short. playback_of r p reached.steps text begins
          (lines_list_in_turn l.listing reached.steps text l.in_turn are short);
      delivers = (refl, reached.out);
      file = one_file law old.left new.left lines l.listing reached.given l.those;
    }

-- ---- the whole input

-- lines that all list steps have the steps that they list
same_steps : HoldsOneList → (lines : List (List ℕ)) (steps others : List Step) → LinesDo lines steps
    → ListInTurn lines others → steps ≡ others
same_steps law [] steps others h k = h ∙ sym k
same_steps law (line ∷ lines) steps others (first, rest, cut, inl here, later) (one, more, holds, is, all) =
    let same : first ≡ one = law line first one here.holds holds.holds in
    let further : rest ≡ more = same_steps law lines rest more later all in
    cut ∙ ap (λ (s : List Step). s ++ rest) same ∙ ap (λ (s : List Step). one ++ s) further ∙ sym is
same_steps law (line ∷ lines) steps others (first, rest, cut, inr bad, later) (one, more, holds, is, all) =
    absurd (bad.0 one holds)

-- at the end of a known input all of its lines were read
all_read : (input : List ℕ) (left after : Option (List ℕ)) (lines : List (List ℕ)) → left ≡ Some input
    → GivesLines left lines after → IsAtEnd after → lines_of input ≡ lines
all_read input None after lines known given ended = absurd cc
all_read input (Some bytes) None lines known given ended = absurd given
all_read input (Some bytes) (Some rest) lines known given ended =
    let same : bytes ≡ input = cc known in
    ap (λ (l : List ℕ). lines_of l) (sym same) ∙ given ∙ ap (λ (l : List ℕ). lines ++ lines_of l) ended
    ∙ append-nil lines

pub input_is_playback : BytesHaveLines → HoldsOneList → InputIsPlayback
input_is_playback law one_list r p old new input steps begins (lines, reached, ended) known list short =
    let all : lines_of input ≡ lines = all_read input old.left new.left lines known reached.given ended in
    let same : reached.steps ≡ steps =
    same_steps one_list lines reached.steps steps reached.does
    (subst (λ (ls : List (List ℕ)). ListInTurn ls steps) all list) in
    let are : AreLinesOf input (lines_of input) = (law input (lines_of input)).1 refl in (
      playback_of r p steps input begins (lines_list_in_turn (lines_of input) steps input list are short),
      (
        refl,
        subst (λ (s : List Step). Appends old.written new.written (kept_bytes 0 p (events_of s))) same
            reached.out,
      ),
    )
