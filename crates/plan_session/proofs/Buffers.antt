-- Bytes that went through a buffer which holds none of them any more.
use Rattle.plan_session.proofs.Words.{[], ◌∷◌, ◌≡◌, Appends, Keeps, List, None, Option, Some, append-nil}
use Rattle.plan_session.proofs.Words.{append_known, arith, length, ℕ}

pub handed_on : (before begun taken after : Option (List ℕ)) (held text : List ℕ) → Keeps before begun
    → Appends begun taken text → Keeps taken (append_known after held) → length held ≡ 0 → Appends before after text
handed_on before begun taken after (h ∷ hs) text k a m none = absurd (omega (arith, none))
handed_on None begun taken after [] text k a m none = tt
handed_on (Some b) None taken after [] text k a m none = absurd k
handed_on (Some b) (Some d) None after [] text k a m none = absurd a
handed_on (Some b) (Some d) (Some f) None [] text k a m none = absurd m
handed_on (Some b) (Some d) (Some f) (Some x) [] text k a m none = cc (append-nil x, m, a, k)
