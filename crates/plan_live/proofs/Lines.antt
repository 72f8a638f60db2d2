-- Lines, and then one more.
use Rattle.plan_live.proofs.Words.{[], ◌++◌, ◌+◌, ◌-◌, ◌<◌, ◌∙◌, ◌∷◌, ◌≡◌, AllByRecursion, Appends, Appends-nil}
use Rattle.plan_live.proofs.Words.{Appends-trans, AreDone, Event, GivesLine, GivesLines, Going, Grows, IsAtEnd}
use Rattle.plan_live.proofs.Words.{IsPrompt, Keeps, LineDoes, LineWent, LinesDo, List, ListsNone, None, Option, Playing}
use Rattle.plan_live.proofs.Words.{Some, Step, Streamed, Whole, ap, append-nil, append_assoc, arith, events_of}
use Rattle.plan_live.proofs.Words.{frames_of, inr, kept_bytes, length, lines_of, played, refl, streamed, subst, sym, ℕ}
use Rattle.plan_live.proofs.Joining.{played_join, counts_join, kept_none, kept_from, events_join}
use Rattle.plan_live.proofs.Growing.{grows_more, grows_none}
use Rattle.plan_live.proofs.Going.{appends_as}

gives_more : (a b c : Option (List ℕ)) (lines : List (List ℕ)) (line : List ℕ) → GivesLines a lines b
    → GivesLine b line c → GivesLines a (lines ++ line ∷ []) c
gives_more None b c lines line p q = tt
gives_more (Some x) None c lines line p q = absurd p
gives_more (Some x) (Some y) None lines line p q = absurd q
gives_more (Some x) (Some y) (Some z) lines line p q =
    p ∙ ap (λ (l : List (List ℕ)). lines ++ l) q ∙ sym (append_assoc lines (line ∷ []) (lines_of z))

gives_none : (a : Option (List ℕ)) → GivesLines a [] a
gives_none None = tt
gives_none (Some x) = refl

gives_kept : (a b c : Option (List ℕ)) (lines : List (List ℕ)) → GivesLines a lines b → Keeps b c → GivesLines a lines c
gives_kept None b c lines p q = tt
gives_kept (Some x) None c lines p q = absurd p
gives_kept (Some x) (Some y) None lines p q = absurd q
gives_kept (Some x) (Some y) (Some z) lines p q = p ∙ ap (λ (l : List ℕ). lines ++ lines_of l) (sym q)

-- ---- the steps of lines, and of one more

do_more : (lines : List (List ℕ)) (line : List ℕ) (steps more : List Step) → LinesDo lines steps → LineDoes line more
    → LinesDo (lines ++ line ∷ []) (steps ++ more)
do_more [] line steps more h does = (more, [], ap (λ (l : List Step). l ++ more) h ∙ sym (append-nil more), does, refl)
do_more (x ∷ xs) line steps more (first, rest, cut, one, others) does = (
  first,
  rest ++ more,
  ap (λ (l : List Step). l ++ more) cut ∙ append_assoc first rest more,
  one,
  do_more xs line rest more others does,
)

-- ---- some lines are processed

pub going_first : (skip : ℕ) (p : Playing) (a : Streamed) → Going skip p a a p 0
going_first skip p a = record {
  lines = [];
  reached = record {
    given = gives_none a.left;
    steps = [];
    does = refl;
    out = appends_as a.written a.written [] (kept_bytes skip p []) (sym (kept_none skip p)) (Appends-nil a.written);
  };
  player = refl;
  count = refl;
}

going_more : (skip : ℕ) (p q r : Playing) (m k : ℕ) (line : List ℕ) (old now after : Streamed) (rest : Option (List ℕ))
    → Going skip p old now q m → GivesLine now.left line rest
    → LineWent skip q m line r k (streamed rest now.written) after → Going skip p old after r k
going_more skip p q r m k line old now after rest h given w =
    let steps : List Step = h.reached.steps in
    let more : List Step = w.steps in
    let events : events_of (steps ++ more) ≡ events_of steps ++ events_of more = events_join steps more in
    let at : r ≡ played p (events_of (steps ++ more)) =
    w.went.state ∙ ap (λ (x : Playing). played x (events_of more)) h.player
    ∙ sym (played_join p (events_of steps) (events_of more)) ∙ ap (λ (l : List Event). played p l) (sym events) in
    let sum : length (frames_of p (events_of (steps ++ more))) ≡ length (frames_of p (events_of steps))
    + length (frames_of (played p (events_of steps)) (events_of more)) =
    ap (λ (l : List Event). length (frames_of p l)) events ∙ counts_join p (events_of steps) (events_of more) in
    let later : length (frames_of q (events_of more)) ≡ length
    (frames_of (played p (events_of steps)) (events_of more)) =
    ap (λ (x : Playing). length (frames_of x (events_of more))) h.player in
    let counted : m ≡ 0 + length (frames_of p (events_of steps)) = omega (arith, h.count) in
    let all : skip - 0 ≡ skip = omega arith in
    let bytes : kept_bytes skip p (events_of steps) ++ kept_bytes (skip - m) q (events_of more)
    ≡ kept_bytes skip p (events_of (steps ++ more)) =
    ap (λ (j : ℕ). kept_bytes j p (events_of steps) ++ kept_bytes (skip - m) q (events_of more)) (sym all)
    ∙ kept_from skip p q 0 m (events_of steps) (events_of more) h.player counted
    ∙ ap (λ (j : ℕ). kept_bytes j p (events_of steps ++ events_of more)) all
    ∙ ap (λ (l : List Event). kept_bytes skip p l) (sym events) in
    let last : GivesLine now.left line after.left =
    subst (λ (o : Option (List ℕ)). GivesLine now.left line o) (sym w.went.left) given in
    record {
      lines = h.lines ++ line ∷ [];
      reached = record {
        given = gives_more old.left now.left after.left h.lines line h.reached.given last;
        steps = steps ++ more;
        does = do_more h.lines line steps more h.reached.does w.does;
        out = appends_as old.written after.written (kept_bytes skip p (events_of steps)
            ++ kept_bytes (skip - m) q (events_of more)) (kept_bytes skip p (events_of (steps ++ more))) bytes
            (Appends-trans old.written now.written after.written (kept_bytes skip p (events_of steps))
            (kept_bytes (skip - m) q (events_of more)) h.reached.out w.went.out);
      };
      player = at;
      count = omega (arith, w.went.count, h.count, sum, later);
    }

-- ---- a line that lists no steps

pub line_bad : (skip : ℕ) (q : Playing) (m : ℕ) (line : List ℕ) (a b : Streamed) → ListsNone line → b.left ≡ a.left
    → b.written ≡ a.written → LineWent skip q m line q m a b
line_bad skip q m line a b none left written = record {
  steps = [];
  does = inr (none, refl);
  went = record {
    state = refl;
    count = omega arith;
    left = left;
    out = appends_as a.written b.written [] (kept_bytes (skip - m) q []) (sym (kept_none (skip - m) q))
        (subst (λ (o : Option (List ℕ)). Appends a.written o []) (sym written) (Appends-nil a.written));
  };
}

pub too_long : (line : List ℕ) → 65536 < length line → ListsNone line
too_long line long = λ steps h. let short = h.short in absurd (omega (arith, long, short))

-- ---- with the input after the line, and everything else unchanged

pub going_line : (skip : ℕ) (p q r : Playing) (m k : ℕ) (line : List ℕ) (old now after : Streamed)
    (rest w : Option (List ℕ))
    → Going skip p old now q m → GivesLine now.left line rest → w ≡ now.written
    → LineWent skip q m line r k (streamed rest w) after → Going skip p old after r k
going_line skip p q r m k line old now after rest w h given e went =
    going_more skip p q r m k line old now after rest h given
    (subst (λ (o : Option (List ℕ)). LineWent skip q m line r k (streamed rest o) after) e went)

-- the input ends
pub whole_at : (skip : ℕ) (p q : Playing) (m : ℕ) (old now : Streamed) (rest w : Option (List ℕ))
    → Going skip p old now q m → Keeps now.left rest → IsAtEnd rest → w ≡ now.written
    → Whole skip p old (streamed rest w)
whole_at skip p q m old now rest w h kept end e =
    let there : Whole skip p old (streamed rest now.written) = (
      h.lines,
      record {
        given = gives_kept old.left now.left rest h.lines h.reached.given kept;
        steps = h.reached.steps;
        does = h.reached.does;
        out = h.reached.out;
      },
      end,
    ) in
    subst (λ (o : Option (List ℕ)). Whole skip p old (streamed rest o)) (sym e) there

-- ---- the requests for lines

pub prompt_first : (skip : ℕ) (p : Playing) (old : Streamed) (before : Option (List Streamed))
    → IsPrompt skip p old before before
prompt_first skip p old before = record { moments = []; grows = grows_none before; done = tt }

each_more : (P : Streamed → Type 0) (xs : List Streamed) (x : Streamed) → AllByRecursion P xs → P x
    → AllByRecursion P (xs ++ x ∷ [])
each_more P [] x all one = (one, tt)
each_more P (y ∷ ys) x all one = (all.0, each_more P ys x all.1 one)

pub prompt_more : (skip : ℕ) (p q : Playing) (m : ℕ) (old now : Streamed)
    (before there mid after : Option (List Streamed))
    → Going skip p old now q m → IsPrompt skip p old before there → Grows there mid (now ∷ []) → after ≡ mid
    → IsPrompt skip p old before after
prompt_more skip p q m old now before there mid after h prompt more same =
    let here : IsPrompt skip p old before mid = record {
      moments = prompt.moments ++ now ∷ [];
      grows = grows_more before there mid prompt.moments (now ∷ []) prompt.grows more;
      done = each_more (AreDone skip p old) prompt.moments now prompt.done (h.lines, h.reached);
    } in
    subst (λ (o : Option (List Streamed)). IsPrompt skip p old before o) (sym same) here
