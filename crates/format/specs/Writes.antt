-- Writing into a lent buffer.
use Rattle.std.specs.Prelude.{ℕ, ◌+◌, cond, List, ◌++◌, map, length, take, drop, Ok, Err, Result, nat_le}
use Rattle.std.specs.List.{flat_map}
use Rattle.loads.specs.declared.refusal.Refusal.{Refusal}
use Rattle.loads.specs.declared.refusal.Refusal.TheVariants.{OutputShort}
use Rattle.loads.specs.Params.{FrameParams}
use Rattle.loads.specs.Channels.{Channels}
use Rattle.format.specs.Records.{task_rec, frame_rec, rec_bytes}
use Rattle.format.specs.Encode.{tasks}

-- `out` with `xs` in place of what it holds from `at` on.
abbrev pub placed : List ℕ → ℕ → List ℕ → List ℕ
placed out at xs = take at out ++ (xs ++ drop (at + length xs) out)

-- The bytes of the tasks in the channels `l`, the first of which is channel `c`.
abbrev pub tasks_bytes : ℕ → Channels → List ℕ
tasks_bytes c l = flat_map rec_bytes (map task_rec (tasks c l))

-- The bytes of frames.
abbrev pub frames_bytes : List FrameParams → List ℕ
frames_bytes fs = flat_map rec_bytes (map frame_rec fs)

-- Writing the image `xs` into `out`: its length, with the image at the front of the buffer and later bytes
-- untouched; or 17, and the buffer as before.
abbrev pub written : List ℕ → List ℕ → Result ℕ Refusal × List ℕ
written xs out = cond (nat_le (length xs) (length out)) (Ok (length xs), placed out 0 xs) (Err OutputShort, out)
