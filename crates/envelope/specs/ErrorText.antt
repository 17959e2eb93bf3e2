-- The numbers of the refusals of frames and envelopes, and the names of the members of an envelope (RFC 8909, section 5.1).
use Rattle.std.specs.Prelude.{ℕ, List, codes}
use Rattle.envelope.specs.declared.frame.FrameError.{FrameError}
use Rattle.envelope.specs.declared.frame.FrameError.TheVariants.{Head, Digits, Short}
use Rattle.envelope.specs.declared.errors.EnvError.{EnvError}
use Rattle.envelope.specs.declared.errors.EnvError.TheVariants.{Spelling, Memory}
use Rattle.envelope.specs.declared.errors.Member.{Member}
use Rattle.envelope.specs.declared.errors.Member.TheVariants.{Contents, «Type», Deletes, Count, Tld, Id, PrevId, ObjectUris, Resend, Watermark}

abbrev pub frame_error_text : FrameError → List ℕ
frame_error_text Head = codes "F1"
frame_error_text Digits = codes "F2"
frame_error_text (Short said there) = codes "F3"

abbrev pub env_error_text : EnvError → List ℕ
env_error_text (Spelling fault) = codes "E1"
env_error_text Memory = codes "E2"

-- a member of an object stands behind its name and a dot
abbrev pub member_name : Member → List ℕ
member_name Contents = codes "contents"
member_name «Type» = codes "type"
member_name Deletes = codes "deletes"
member_name Count = codes "header.count"
member_name Tld = codes "header.tld"
member_name Id = codes "id"
member_name PrevId = codes "prevId"
member_name ObjectUris = codes "rdeMenu.objURI"
member_name Resend = codes "resend"
member_name Watermark = codes "watermark"
