use Rattle.theorems.proofs.EvidenceLemmas.{digest_lines_are_kept, one_digest_of_name, records_remain}
use Rattle.theorems.proofs.custody_laws.law_digests.Goals as goal

pub returns : goal.returns
returns c = record { kept = digest_lines_are_kept; one = one_digest_of_name; remain = records_remain }
