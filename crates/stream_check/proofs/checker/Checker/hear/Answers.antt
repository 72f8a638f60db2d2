use Rattle.stream_check.proofs.Words.{[], ◌++◌, ◌∙◌, ◌∷◌, Bool, HearsFrame, IsFramed}
use Rattle.stream_check.proofs.Words.{List, false, fib_count, first_in, map, not, refl, subst, sym, ℕ}
use Rattle.stream_check.proofs.Followed.{two_fibs, skipped_where, next_where, cut_where, later_where, follows_skip}
use Rattle.stream_check.proofs.Followed.{follows_hold, follows_frame, ends_frame, adds_skip, adds_hold, adds_frame}
use Rattle.stream_check.proofs.Followed.{ends_at, cut_before, cut_after}
use Rattle.stream_check.proofs.checker.Checker.hear.Goals as goal

pub returns-then-is_skipped-clause-heard : goal.returns-then-is_skipped-clause-heard
returns-then-is_skipped-clause-heard g c = λ r mode period stream start f.
    let w = skipped_where r c.args.self.now c.args.fib.now (first_in (r.read c.args.fib.now)) refl
    (sym (c.is_skipped.ensures r) ∙ c.if-is_skipped.true) in
    rw (c.skip.ensures) (follows_skip r mode _ _ start _ _ _ w.0.none w.0.empty w.1 f).0

pub returns-then-is_cut-clause-heard : goal.returns-then-is_cut-clause-heard
returns-then-is_cut-clause-heard g c = λ r mode period stream start f.
    let w = cut_where r c.args.self.now c.args.fib.now c.summary_of-summary.result.opening
    (c.summary_of-summary.ensures r).begins (sym c.is_cut.ensures.value ∙ c.if-is_cut.true) in
    let framed = cut_before r mode _ _ start _ _ _ w.1 w.0 (two_fibs mode) c.is_cut.ensures.room f in
    (follows_frame r mode period stream start (g.R.Report.reported c.args.report.now)
    (g.R.Report.reported c.hear_cut.new.report) c.args.self.now c.hear_cut.new.self
    (map r.read c.args.self.now.held) c.args.fib.now f
    (subst (λ (h : List (List ℕ)). IsFramed (fib_count mode) (stream ++ r.read c.args.fib.now ∷ []) f.skipped
    (f.frames ++ map r.read c.args.self.now.held ∷ []) (map r.read h)) (sym c.hear_cut.ensures.held) framed)
    (subst (λ (t : Bool). HearsFrame c.args.self.now.size (map r.read c.args.self.now.held) c.args.self.now.state
    (g.R.Report.reported c.args.report.now) c.hear_cut.new.self.state (g.R.Report.reported c.hear_cut.new.report)
    (not t)) c.if-not-hear_cut.false (c.hear_cut.ensures.heard r))
    c.hear_cut.ensures.size c.hear_cut.ensures.skipped (c.hear_cut.ensures.damaged r)).0

pub returns-then-not-hear_cut-clause-full : goal.returns-then-not-hear_cut-clause-full
returns-then-not-hear_cut-clause-full g c = λ same r mode period stream start f.
    let w = cut_where r c.args.self.now c.args.fib.now c.summary_of-summary.result.opening
    (c.summary_of-summary.ensures r).begins (sym c.is_cut.ensures.value ∙ c.if-is_cut.true) in
    let framed = cut_before r mode _ _ start _ _ _ w.1 w.0 (two_fibs mode) c.is_cut.ensures.room f in
    (ends_frame r mode period stream start (g.R.Report.reported c.args.report.now)
    (g.R.Report.reported c.hear_cut.new.report) c.args.self.now c.hear_cut.new.self.state
    (map r.read c.args.self.now.held) (r.read c.args.fib.now ∷ []) c.args.fib.now f framed
    (subst (λ (t : Bool). HearsFrame c.args.self.now.size (map r.read c.args.self.now.held) c.args.self.now.state
    (g.R.Report.reported c.args.report.now) c.hear_cut.new.self.state (g.R.Report.reported c.hear_cut.new.report)
    (not t)) c.if-not-hear_cut.true (c.hear_cut.ensures.heard r))).0

pub returns-then-has_space-clause-heard : goal.returns-then-has_space-clause-heard
returns-then-has_space-clause-heard g c = λ r mode period stream start f.
    let next = next_where _ _ _ _ refl (sym (c.is_skipped.ensures r) ∙ c.if-is_skipped.false) in
    let later = later_where r c.args.self.now c.args.fib.now c.summary_of-summary.result.opening
    (c.summary_of-summary.ensures r).begins (sym c.is_cut.ensures.value ∙ c.if-is_cut.false) in
    rw (c.hold.ensures) (follows_hold r mode period stream start (g.R.Report.reported c.args.report.now) c.args.self.now
    c.args.fib.now next later (c.has_space.ensures.space c.if-has_space.true) f).0

pub returns-clause-heard : goal.returns-clause-heard
returns-clause-heard g c = λ r mode period stream start f.
    let next = next_where _ _ _ _ refl (sym (c.is_skipped.ensures r) ∙ c.if-is_skipped.false) in
    let later = later_where r c.args.self.now c.args.fib.now c.summary_of-summary.result.opening
    (c.summary_of-summary.ensures r).begins (sym c.is_cut.ensures.value ∙ c.if-is_cut.false) in
    let framed = cut_after r mode _ _ start _ _ _ next later (c.has_space.ensures.last c.if-has_space.false) f in
    (follows_frame r mode period stream start (g.R.Report.reported c.args.report.now)
    (g.R.Report.reported c.hear_last.new.report) c.args.self.now c.hear_last.new.self
    (map r.read (c.args.self.now.held ++ c.args.fib.now ∷ [])) c.args.fib.now f
    (subst (λ (h : List (List ℕ)). IsFramed (fib_count mode) (stream ++ r.read c.args.fib.now ∷ []) f.skipped
    (f.frames ++ map r.read (c.args.self.now.held ++ c.args.fib.now ∷ []) ∷ []) (map r.read h))
    (sym c.hear_last.ensures.held) framed)
    (subst (λ (t : Bool). HearsFrame c.args.self.now.size (map r.read (c.args.self.now.held ++ c.args.fib.now ∷ []))
    c.args.self.now.state (g.R.Report.reported c.args.report.now) c.hear_last.new.self.state
    (g.R.Report.reported c.hear_last.new.report) (not t)) c.if-not-hear_last.false (c.hear_last.ensures.heard r))
    c.hear_last.ensures.size c.hear_last.ensures.skipped (c.hear_last.ensures.damaged r)).0

pub returns-then-not-hear_last-clause-full : goal.returns-then-not-hear_last-clause-full
returns-then-not-hear_last-clause-full g c = λ same r mode period stream start f.
    let next = next_where _ _ _ _ refl (sym (c.is_skipped.ensures r) ∙ c.if-is_skipped.false) in
    let later = later_where r c.args.self.now c.args.fib.now c.summary_of-summary.result.opening
    (c.summary_of-summary.ensures r).begins (sym c.is_cut.ensures.value ∙ c.if-is_cut.false) in
    let framed = cut_after r mode _ _ start _ _ _ next later (c.has_space.ensures.last c.if-has_space.false) f in
    (ends_frame r mode period stream start (g.R.Report.reported c.args.report.now)
    (g.R.Report.reported c.hear_last.new.report) c.args.self.now c.hear_last.new.self.state
    (map r.read (c.args.self.now.held ++ c.args.fib.now ∷ [])) [] c.args.fib.now f framed
    (subst (λ (t : Bool). HearsFrame c.args.self.now.size (map r.read (c.args.self.now.held ++ c.args.fib.now ∷ []))
    c.args.self.now.state (g.R.Report.reported c.args.report.now) c.hear_last.new.self.state
    (g.R.Report.reported c.hear_last.new.report) (not t)) c.if-not-hear_last.true (c.hear_last.ensures.heard r))
    ).0

pub returns-then-is_skipped-clause-added : goal.returns-then-is_skipped-clause-added
returns-then-is_skipped-clause-added g c = λ r mode period stream.
    let w = skipped_where r c.args.self.now c.args.fib.now (first_in (r.read c.args.fib.now)) refl
    (sym (c.is_skipped.ensures r) ∙ c.if-is_skipped.true) in
    rw (c.skip.ensures) (adds_skip _ _ _ _ _ _ _ w.0.none w.0.empty w.1)

pub returns-then-has_space-clause-added : goal.returns-then-has_space-clause-added
returns-then-has_space-clause-added g c = λ r mode period stream.
    let next = next_where _ _ _ _ refl (sym (c.is_skipped.ensures r) ∙ c.if-is_skipped.false) in
    let later = later_where r c.args.self.now c.args.fib.now c.summary_of-summary.result.opening
    (c.summary_of-summary.ensures r).begins (sym c.is_cut.ensures.value ∙ c.if-is_cut.false) in
    rw (c.hold.ensures) (adds_hold _ _ _ _ _ _ _ next later (c.has_space.ensures.space c.if-has_space.true))

pub returns-then-is_cut-clause-added : goal.returns-then-is_cut-clause-added
returns-then-is_cut-clause-added g c = λ r mode period stream f.
    let w = cut_where r c.args.self.now c.args.fib.now c.summary_of-summary.result.opening
    (c.summary_of-summary.ensures r).begins (sym c.is_cut.ensures.value ∙ c.if-is_cut.true) in
    let framed = cut_before r mode _ _ _ _ _ _ w.1 w.0 (two_fibs mode) c.is_cut.ensures.room f in
    adds_frame r mode period stream (g.R.Report.reported c.args.report.now) (g.R.Report.reported c.hear_cut.new.report)
    c.args.self.now c.hear_cut.new.self (map r.read c.args.self.now.held) c.args.fib.now f
    (subst (λ (h : List (List ℕ)). IsFramed (fib_count mode) (stream ++ r.read c.args.fib.now ∷ []) f.skipped
    (f.frames ++ map r.read c.args.self.now.held ∷ []) (map r.read h)) (sym c.hear_cut.ensures.held) framed)
    (subst (λ (t : Bool). HearsFrame c.args.self.now.size (map r.read c.args.self.now.held) c.args.self.now.state
    (g.R.Report.reported c.args.report.now) c.hear_cut.new.self.state (g.R.Report.reported c.hear_cut.new.report)
    (not t)) c.if-not-hear_cut.false (c.hear_cut.ensures.heard r))
    c.hear_cut.ensures.size c.hear_cut.ensures.skipped (c.hear_cut.ensures.damaged r)

pub returns-clause-added : goal.returns-clause-added
returns-clause-added g c = λ r mode period stream f.
    let next = next_where _ _ _ _ refl (sym (c.is_skipped.ensures r) ∙ c.if-is_skipped.false) in
    let later = later_where r c.args.self.now c.args.fib.now c.summary_of-summary.result.opening
    (c.summary_of-summary.ensures r).begins (sym c.is_cut.ensures.value ∙ c.if-is_cut.false) in
    let framed = cut_after r mode _ _ _ _ _ _ next later (c.has_space.ensures.last c.if-has_space.false) f in
    adds_frame r mode period stream (g.R.Report.reported c.args.report.now) (g.R.Report.reported c.hear_last.new.report)
    c.args.self.now c.hear_last.new.self (map r.read (c.args.self.now.held ++ c.args.fib.now ∷ [])) c.args.fib.now f
    (subst (λ (h : List (List ℕ)). IsFramed (fib_count mode) (stream ++ r.read c.args.fib.now ∷ []) f.skipped
    (f.frames ++ map r.read (c.args.self.now.held ++ c.args.fib.now ∷ []) ∷ []) (map r.read h))
    (sym c.hear_last.ensures.held) framed)
    (subst (λ (t : Bool). HearsFrame c.args.self.now.size (map r.read (c.args.self.now.held ++ c.args.fib.now ∷ []))
    c.args.self.now.state (g.R.Report.reported c.args.report.now) c.hear_last.new.self.state
    (g.R.Report.reported c.hear_last.new.report) (not t)) c.if-not-hear_last.false (c.hear_last.ensures.heard r))
    c.hear_last.ensures.size c.hear_last.ensures.skipped (c.hear_last.ensures.damaged r)

pub returns-then-not-hear_cut-clause-cut : goal.returns-then-not-hear_cut-clause-cut
returns-then-not-hear_cut-clause-cut g c = λ same r mode period stream f.
    let w = cut_where r c.args.self.now c.args.fib.now c.summary_of-summary.result.opening
    (c.summary_of-summary.ensures r).begins (sym c.is_cut.ensures.value ∙ c.if-is_cut.true) in
    let framed = cut_before r mode _ _ _ _ _ _ w.1 w.0 (two_fibs mode) c.is_cut.ensures.room f in
    ends_at r mode period stream (g.R.Report.reported c.args.report.now) (g.R.Report.reported c.hear_cut.new.report)
    c.args.self.now c.hear_cut.new.self.state (map r.read c.args.self.now.held) (r.read c.args.fib.now ∷ [])
    c.args.fib.now f framed
    (subst (λ (t : Bool). HearsFrame c.args.self.now.size (map r.read c.args.self.now.held) c.args.self.now.state
    (g.R.Report.reported c.args.report.now) c.hear_cut.new.self.state (g.R.Report.reported c.hear_cut.new.report)
    (not t)) c.if-not-hear_cut.true (c.hear_cut.ensures.heard r))

pub returns-then-not-hear_last-clause-cut : goal.returns-then-not-hear_last-clause-cut
returns-then-not-hear_last-clause-cut g c = λ same r mode period stream f.
    let next = next_where _ _ _ _ refl (sym (c.is_skipped.ensures r) ∙ c.if-is_skipped.false) in
    let later = later_where r c.args.self.now c.args.fib.now c.summary_of-summary.result.opening
    (c.summary_of-summary.ensures r).begins (sym c.is_cut.ensures.value ∙ c.if-is_cut.false) in
    let framed = cut_after r mode _ _ _ _ _ _ next later (c.has_space.ensures.last c.if-has_space.false) f in
    ends_at r mode period stream (g.R.Report.reported c.args.report.now) (g.R.Report.reported c.hear_last.new.report)
    c.args.self.now c.hear_last.new.self.state (map r.read (c.args.self.now.held ++ c.args.fib.now ∷ [])) []
    c.args.fib.now f framed
    (subst (λ (t : Bool). HearsFrame c.args.self.now.size (map r.read (c.args.self.now.held ++ c.args.fib.now ∷ []))
    c.args.self.now.state (g.R.Report.reported c.args.report.now) c.hear_last.new.self.state
    (g.R.Report.reported c.hear_last.new.report) (not t)) c.if-not-hear_last.true (c.hear_last.ensures.heard r))
