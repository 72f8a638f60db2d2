-- The frames of a command, and then one more.
use Rattle.plan_debug.proofs.Words.{[], ◌++◌, ◌<◌, ◌↔◌, ◌∙◌, ◌∷◌, ◌≡◌, ◌≤◌, ◌⊎◌, Announcement, Bool, Contact, Ends}
use Rattle.plan_debug.proofs.Words.{EndsAt, Event, Frame, IsTrue, List, Option, Program, Some, State, after_frame}
use Rattle.plan_debug.proofs.Words.{after_frames, announced, announcement_list, ap, append_assoc, arith, cases_lt}
use Rattle.plan_debug.proofs.Words.{false, frame_announcement, frame_bytes, frames, happens, inl, inr, keep_last}
use Rattle.plan_debug.proofs.Words.{last_bytes, length, line_at, most_frames, refl, run, subst, suc, sym, zero, ℕ}
use Rattle.plan_player.specs.Playing.{Playing, played}
use Rattle.plan_player.proofs.Delivering.{played_join}
use Rattle.plan_session.specs.declared.command.Command.{Command}
use Rattle.plan_debug.proofs.Lasts.{kept_again}

one_frame_more : (n : ℕ) → frames (suc n) ≡ frames n ++ Frame ∷ []
one_frame_more zero = refl
one_frame_more (suc n) = ap (λ (es : List Event). Frame ∷ es) (one_frame_more n)

announced_join : (p : Program) (s : State) (events more : List Event)
    → announced p s (events ++ more) ≡ announced p s events ++ announced p (run p s events) more
announced_join p s [] more = refl
announced_join p s (Contact c closed ∷ es) more = announced_join p (happens p s (Contact c closed)) es more
announced_join p s (Frame ∷ es) more =
    ap (λ (l : List Announcement). announcement_list (frame_announcement p s) ++ l)
    (announced_join p (after_frame p s) es more)
    ∙ sym (append_assoc (announcement_list (frame_announcement p s)) (announced p (after_frame p s) es)
    (announced p (run p (after_frame p s) es) more))

-- ---- this many frames of a command were played

pub record IsStretch (old : Playing) (before : List Announcement) (stop : Option ℕ) (command : Command) (n : ℕ)
    (player : Playing) (log : List Announcement) (last : List ℕ) (ended : Bool) : Type 0 where
  pub within : n ≤ most_frames command
  pub none_before : (m : ℕ) → m < n → EndsAt old.code stop command old.state m → ⊥
  pub ends : IsTrue ended ↔ EndsAt old.code stop command old.state n
  pub last_is : 0 < n → Some last ≡ last_bytes old.code old.state n
  pub state : player ≡ played old (frames n)
  pub kept : log ≡ keep_last 64 (before ++ announced old.code old.state (frames n))
  pub few : length log ≤ 64

not_false : IsTrue false → ⊥
not_false h = cc

before_or_here : (m n : ℕ) → m < suc n → (m < n) ⊎ (m ≡ n)
before_or_here m n lt = elim (cases_lt m n) [
  | inl less ↦ inl less
  | inr more ↦ inr (omega (arith, lt, more))
]

pub one_more : (old p q : Playing) (before log after : List Announcement) (stop : Option ℕ) (command : Command) (n : ℕ)
    (last bytes : List ℕ) (ended : Bool) (line : ℕ) → IsStretch old before stop command n p log last false
    → n < most_frames command → q ≡ played p (Frame ∷ []) → bytes ≡ frame_bytes p.code p.state
    → after ≡ keep_last 64 (log ++ announced p.code p.state (Frame ∷ [])) → length after ≤ 64
    → line_at q.code q.state.pc ≡ Some line → IsTrue ended ↔ Ends stop command p.state.pc q.state.pc (Some line)
    → IsStretch old before stop command (suc n) q after bytes ended
one_more old p q before log after stop command n last bytes ended line h lt state is_bytes noted few at ends =
    let s : State = old.state in
    let goes : q ≡ played old (frames (suc n)) =
    state ∙ ap (λ (x : Playing). played x (Frame ∷ [])) h.state ∙ sym (played_join old (frames n) (Frame ∷ []))
    ∙ ap (λ (es : List Event). played old es) (sym (one_frame_more n)) in
    let now : List Announcement = announced old.code s (frames n) in
    let then_one : announced p.code p.state (Frame ∷ []) ≡ announced old.code (run old.code s (frames n)) (Frame ∷ []) =
    ap (λ (x : Playing). announced x.code x.state (Frame ∷ [])) h.state in
    let more : List Announcement = announced old.code (run old.code s (frames n)) (Frame ∷ []) in
    let joined : now ++ more ≡ announced old.code s (frames (suc n)) =
    sym (announced_join old.code s (frames n) (Frame ∷ []))
    ∙ ap (λ (es : List Event). announced old.code s es) (sym (one_frame_more n)) in
    let there : Some line ≡ line_at old.code (after_frames old.code s (suc n)).pc =
    sym at ∙ ap (λ (x : Playing). line_at x.code x.state.pc) goes in
    let pc_before : p.state.pc ≡ (after_frames old.code s n).pc = ap (λ (x : Playing). x.state.pc) h.state in
    let pc_after : q.state.pc ≡ (after_frames old.code s (suc n)).pc = ap (λ (x : Playing). x.state.pc) goes in
    let same : Ends stop command p.state.pc q.state.pc (Some line) ≡ EndsAt old.code stop command s (suc n) =
    λ i. Ends stop command (pc_before i) (pc_after i) (there i) in
    record {
      within = omega (arith, lt);
      none_before = λ m less at_m. elim (before_or_here m n less) [
        | inl earlier ↦ h.none_before m earlier at_m
        | inr here ↦ not_false (h.ends.1 (subst (λ (k : ℕ). EndsAt old.code stop command s k) here at_m))
      ];
      ends = subst (λ (T : Type 0). IsTrue ended ↔ T) same ends;
      last_is = λ some. ap (λ (l : List ℕ). Some l) (is_bytes
          ∙ ap (λ (x : Playing). frame_bytes x.code x.state) h.state);
      state = goes;
      kept = noted ∙ ap (λ (l : List Announcement). keep_last 64 (log ++ l)) then_one
          ∙ ap (λ (l : List Announcement). keep_last 64 (l ++ more)) h.kept
          ∙ kept_again 64 (before ++ now) more
          ∙ ap (λ (l : List Announcement). keep_last 64 l)
          (append_assoc before now more ∙ ap (λ (l : List Announcement). before ++ l) joined);
      few = few;
    }
