-- The text of a script: request lines, each ended by LF. A session does not read every request of a script yet.
use Rattle.std.specs.Prelude.{ℕ, List, ◌++◌, codes, decimal}
use Rattle.std.specs.List.{flat_map}
use Rattle.table_maker.specs.Requests.{requests}
use Rattle.table_maker.specs.declared.part.Part.{Part}
use Rattle.table_maker.specs.declared.part.Part.TheVariants as part
use Rattle.table_maker.specs.declared.request.Write.{Write}
use Rattle.table_maker.specs.declared.request.Write.TheVariants.{Add, Remove}
use Rattle.table_maker.specs.declared.request.Request.{Request}
use Rattle.table_maker.specs.declared.request.Request.TheVariants.{New, Again, Publish}

-- the fixed parts of the lines
unfoldable pub text_of : Part → List ℕ
text_of part.CreateLine = codes "{\"id\":\"maker\",\"op\":\"create\",\"partition\":[],\"schema\":\"{\\\"type\\\":\\\"struct\\\",\\\"fields\\\":[]}\"}\n"
text_of part.AddModified = codes "{\"adds\":[{\"dataChange\":true,\"modificationTime\":"
text_of part.AddPath = codes ",\"partitionValues\":{},\"path\":\"f"
text_of part.AddSize = codes "\",\"size\":"
text_of part.AddNumber = codes "}],\"app\":\"maker\",\"number\":"
text_of part.AddEnd = codes ",\"op\":\"write\"}\n"
text_of part.RemoveNumber = codes "{\"app\":\"maker\",\"number\":"
text_of part.RemovePath = codes ",\"op\":\"write\",\"removes\":[{\"dataChange\":true,\"path\":\"f"
text_of part.RemoveEnd = codes "\"}]}\n"
text_of part.PublishLine = codes "{\"op\":\"publish\"}\n"
text_of part.LoadLine = codes "{\"op\":\"load\"}\n"

-- the line of a write, with its numbers in decimal digits
unfoldable pub write_line : Write → List ℕ
write_line (Add file size number) =
    text_of part.AddModified ++ decimal file ++ text_of part.AddPath ++ decimal file ++ text_of part.AddSize ++ decimal size
    ++ text_of part.AddNumber ++ decimal number ++ text_of part.AddEnd
write_line (Remove file number) =
    text_of part.RemoveNumber ++ decimal number ++ text_of part.RemovePath ++ decimal file ++ text_of part.RemoveEnd

abbrev pub request_line : Request → List ℕ
request_line (New write) = write_line write
request_line (Again write) = write_line write
request_line Publish = text_of part.PublishLine

-- the script of a number: a table is created, as many requests as wanted follow, and a load ends it
unfoldable pub script_of : ℕ → ℕ → List ℕ
script_of number count = text_of part.CreateLine ++ flat_map request_line (requests number count) ++ text_of part.LoadLine
