-- The memory of a cleaning at its last fence is ready for the chunk's entries to leave.
-- Assumes nothing.
use Rattle.std.proofs.Common.{◌≡◌, ℕ, ◌+◌, ◌*◌, ◌/◌, ◌≤◌, List, length, arith}
use Rattle.spec.specs.declared.Size.{Size}
use Rattle.spec.specs.Places.{base, word_chunk, chunks_in}
use Rattle.places.specs.Sizes.{power_of}
use Rattle.spec.specs.Directory.{lines_of}
use Rattle.spec.specs.Log.{Entry}
use Rattle.session.specs.Fits.{Opens}
use Rattle.session.specs.Cleaned.{after, Moves}
use Rattle.forward.specs.Freed.{Freed}
use Rattle.forward.proofs.Freed.{opened-log, cleaned, stands_here, stands-copied}
use Rattle.apply.specs.Passes.{Holds, Emptied}

module _ (size : Size) (lo : 12 ≤ power_of size) (hi : power_of size ≤ 16) (n s at b z : ℕ) (old ws : List ℕ) (es xs mid ys as' bs : List Entry) (f : Freed size lo hi n s at b z old ws es xs mid ys as' bs) where
  pub cleaning-emptied : (buffer table : List ℕ) (keys bytes : ℕ) → chunks_in (power_of size) bytes ≡ n → length ws ≡ bytes / 8 → Opens (power_of size) bytes ws (length table) (after xs mid ys as' bs at)
      → (words : ℕ) → Moves size (word_chunk (power_of size) (base (power_of size) s)) words xs mid ys as' bs at → Holds size buffer table keys es
      → Emptied size n ws buffer table keys (base (power_of size) s) (base (power_of size) s + 8 * lines_of (power_of size) old s) at (at + 8 * b) words xs mid ys as' bs
  cleaning-emptied buffer table keys bytes q long o words m h = record {
    cleaned = cleaned size lo hi n s at b z old ws es xs mid ys as' bs f;
    moves = m;
    here = stands_here size lo hi n s at b z old ws es xs mid ys as' bs f;
    copied = stands-copied size lo hi n s at b z old ws es xs mid ys as' bs f;
    most = f.ok.most;
    long = let l = f.ok.long in omega arith;
    accepted = opened-log size bytes n ws (length table) (after xs mid ys as' bs at) q long o;
    holds = rw f.parts.whole at h;
  }
