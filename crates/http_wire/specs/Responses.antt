-- The bytes of a response.
use Rattle.std.specs.Prelude.{ℕ, Bool, List, [], ◌++◌, ◌==◌, length, codes, decimal, if◌then◌else◌}

-- the reason phrases (RFC 9110, section 15; of 429 and 431 RFC 6585, sections 4 and 5); another status has none
unfoldable pub reason : ℕ → List ℕ
reason status =
    if status == 200 then codes "OK"
    else (if status == 201 then codes "Created"
    else (if status == 400 then codes "Bad Request"
    else (if status == 404 then codes "Not Found"
    else (if status == 405 then codes "Method Not Allowed"
    else (if status == 409 then codes "Conflict"
    else (if status == 411 then codes "Length Required"
    else (if status == 413 then codes "Content Too Large"
    else (if status == 422 then codes "Unprocessable Content"
    else (if status == 429 then codes "Too Many Requests"
    else (if status == 431 then codes "Request Header Fields Too Large"
    else (if status == 500 then codes "Internal Server Error"
    else (if status == 501 then codes "Not Implemented"
    else (if status == 503 then codes "Service Unavailable"
    else (if status == 505 then codes "HTTP Version Not Supported"
    else []))))))))))))))

unfoldable pub content_type : Bool → List ℕ
content_type json = if json then codes "application/json" else codes "application/octet-stream"

-- the end of the head, with a line before it where the connection ends
unfoldable pub head_end : Bool → List ℕ
head_end close = if close then codes "\r\nConnection: close\r\n\r\n" else codes "\r\n\r\n"

unfoldable pub status_line : ℕ → List ℕ
status_line status = codes "HTTP/1.1 " ++ decimal status ++ codes " " ++ reason status

unfoldable pub header_lines : Bool → ℕ → List ℕ
header_lines json size = codes "\r\nContent-Type: " ++ content_type json ++ codes "\r\nContent-Length: " ++ decimal size

-- a response: its head and its body
abbrev pub response : ℕ → Bool → Bool → List ℕ → List ℕ
response status json close body = status_line status ++ header_lines json (length body) ++ head_end close ++ body
