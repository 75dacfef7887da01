use Rattle.std.proofs.Common.{◌≡◌, map, take}
use Rattle.lj_cli.specs.AuditOutput.{upload_name}
use Rattle.lj_cli.proofs.audit_lines.upload_names.Given as goal

abbrev pub invariant-loop-upload : goal.invariant-loop-upload
invariant-loop-upload l = l.names.items ≡ map upload_name (take l.upload-index l.uploads)
