-- How many uploads and blocks are held, and when more are admitted.
use Rattle.std.specs.Prelude.{◌≡◌, ℕ, ◌+◌, ◌<◌, ◌≤◌}
use Rattle.lj_upload.specs.declared.quotas.TheConstants.{QUOTA_BLOCKS, QUOTA_UPLOADS}
use Rattle.lj_upload.specs.declared.quotas.QuotaFull.{QuotaFull}
use Rattle.lj_upload.specs.declared.quotas.QuotaFull.TheVariants.{Uploads, Blocks}

-- how many uploads are held, and how many blocks they have in all
pub record Held : Type 0 where
  pub uploads : ℕ
  pub blocks : ℕ

-- one more upload, of n blocks, is within the quota
abbrev pub Admits : Held → ℕ → Type 0
Admits held n = (held.uploads < QUOTA_UPLOADS) × (held.blocks + n ≤ QUOTA_BLOCKS)

-- why one more upload, of n blocks, is not: as many uploads as can be are held, or else the blocks would be too many
abbrev pub IsQuotaCause : Held → ℕ → QuotaFull → Type 0
IsQuotaCause held n (Uploads m) = (held.uploads ≡ QUOTA_UPLOADS) × (m ≡ QUOTA_UPLOADS)
IsQuotaCause held n (Blocks m) = (held.uploads < QUOTA_UPLOADS) × (m ≡ held.blocks + n) × (QUOTA_BLOCKS < m)
