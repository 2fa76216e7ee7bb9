use Rattle.std.proofs.Common.{◌≡◌, ◌+◌, map, drop}
use Rattle.theory.specs.Meaning.{last_mark, later}
use Rattle.loads.specs.Train.{mark_from}
use Rattle.loads.specs.TrainRests.{params, gaps}
use Rattle.loads.proofs.train.marks.Rounds.last_of.Given as goal

-- The gaps so far and those ahead make all gaps; the later of what is found and of what the frames ahead have is the
-- whole.
abbrev pub invariant-loop-f : goal.invariant-loop-f
invariant-loop-f l = record {
  gaps_left : l.off + gaps (drop l.f-index l.self.frames.now) ≡ l.start + gaps l.self.frames.now;
  marks_left : later l.last (last_mark (λ u. mark_from l.self.round u l.off (map params (drop l.f-index l.self.frames.now))) l.self.t)
      ≡ last_mark (λ u. mark_from l.self.round u l.start (map params l.self.frames.now)) l.self.t;
}
