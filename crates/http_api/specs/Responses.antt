-- Responses and their bytes (RFC 9112, section 4).
use Rattle.std.specs.Prelude.{ℕ, List, [], ◌++◌, length, codes, decimal, Option, Some, None}
use Rattle.desk.specs.Lines.{report_text}
use Rattle.answer_lines.specs.Printing.{reply_text}
use Rattle.http_request.specs.declared.faults.Method.{Method}
use Rattle.http_request.specs.RequestMeaning.{method_text}
use Rattle.http_api.specs.declared.status.ResponseStatus.{ResponseStatus}
use Rattle.http_api.specs.declared.status.ResponseStatus.TheVariants.{Done}
use Rattle.http_api.specs.declared.response.Media.{Media}
use Rattle.http_api.specs.declared.response.Media.TheVariants.{Text, Bytes}
use Rattle.http_api.specs.declared.response.Body.{Body}
use Rattle.http_api.specs.declared.response.Body.TheVariants as body
use Rattle.http_api.specs.declared.response.Response.{Response}
use Rattle.http_api.specs.declared.report.Report.{Report}
use Rattle.http_api.specs.declared.response.Message.{Message}
use Rattle.http_api.specs.declared.response.Message.TheVariants as message
use Rattle.http_api.specs.Statuses.{status_text}

-- the name of a kind of bytes (RFC 9110, section 8.3)
abbrev pub media_text : Media → List ℕ
media_text Text = codes "text/plain"
media_text Bytes = codes "application/octet-stream"

-- the field of a 405
abbrev pub allow_line : Option Method → List ℕ
allow_line None = []
allow_line (Some method) = codes "Allow: " ++ method_text method ++ codes "\r\n"

-- status line, fields and an empty line, before so many bytes of a body
abbrev pub response_head : ResponseStatus → Media → Option Method → ℕ → List ℕ
response_head status media allow length =
    codes "HTTP/1.1 " ++ status_text status ++ codes "\r\nContent-Type: " ++ media_text media ++ codes "\r\nContent-Length: " ++ decimal length
    ++ codes "\r\nConnection: close\r\n" ++ allow_line allow ++ codes "\r\n"

-- what is answered
pub record HttpResponse : Type 0 where
  pub status : ResponseStatus
  pub media : Media
  pub allow : Option Method
  pub body : List ℕ

abbrev pub http_response : ResponseStatus → Media → Option Method → List ℕ → HttpResponse
http_response status media allow body = record { status = status; media = media; allow = allow; body = body }

-- its bytes
abbrev pub response_bytes : HttpResponse → List ℕ
response_bytes a = response_head a.status a.media a.allow (length a.body) ++ a.body

-- a line of text
abbrev pub text_response : ResponseStatus → List ℕ → HttpResponse
text_response code text = http_response code Text None text

-- only the bytes of a part are no text
abbrev pub media_of : Body → Media
media_of (body.Line line) = Text
media_of (body.Record told) = Text
media_of (body.Part bytes) = Bytes
media_of (body.Text text) = Text

abbrev pub body_text : Body → List ℕ
body_text (body.Line line) = line.items
body_text (body.Record told) = reply_text told
body_text (body.Part bytes) = bytes.items
body_text (body.Text text) = text.items

abbrev pub response_view : Response → HttpResponse
response_view r = http_response r.status (media_of r.body) r.allow (body_text r.body)

abbrev pub report_view : Report → HttpResponse
report_view report = text_response Done (report_text report.notices.now)

abbrev pub message_view : Message → HttpResponse
message_view (message.Response response) = response_view response
message_view (message.Report report) = report_view report
